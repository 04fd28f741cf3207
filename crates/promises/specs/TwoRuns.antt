-- Two pictures that share all but some token partitions: as long as only partitions are read in which they agree, they go the same way.
use Rattle.std.specs.Prelude.{◌-◌, ◌*◌, ◌/◌, ◌%◌, ◌≤◌, ◌<◌, ◌≡◌, ◌⊎◌}
use Rattle.numbers.specs.Words.{ℕ, arith, refl, sym, ◌∙◌, ap, inl, inr, lt_or, eq_or, List, length, get_or, set, length-set, get_or-set_other, get_or-set_same, Ok, Err}
use Rattle.reader.specs.Reading.{no_reader_of}
use Rattle.tile.specs.Tile.{pick_of}
use Rattle.lent.specs.Memory.{column_at, Memory}
use Rattle.header.specs.declared.frame.Frame.{Frame}
use Rattle.macroblock.specs.declared.arguments.Around.{Around}
use Rattle.macroblock.specs.declared.arguments.Place.{Place}
use Rattle.macroblock.specs.declared.arguments.Readers.{Readers}
use Rattle.macroblock.specs.Macroblock.{reads_of, Planes, Finished, Step, no_modes, no_tokens, step_of}
use Rattle.choices.specs.declared.answer.Stop.TheVariants as Stop
use Rattle.picture.specs.Picture.{reads_at, Picture, State, Ended, column_of, partition_of, planes_in, place_of, readers_at, around_at, step_at, written, next_of, run_of}
use Rattle.picture.specs.CountsLaws.{reads_at_lem}
use Rattle.picture.specs.PictureLaws.{step_at_lem}
use Rattle.choices.specs.Choices.{beside_of, Decoded}
use Rattle.promises.specs.Reached.{Reached, start, after, Ending, whole, modes_out, tokens_out}
use Rattle.promises.specs.ReachedLaws.{missing_modes, missing_tokens, ending, ends_whole, stops_modes, stops_tokens, reached_before}

-- the same, but for token partitions of which U does not hold
pub record Twins (U : ℕ → Type 0) (P Q : Picture) : Type 0 where
  pub first : P.first ≡ Q.first
  pub count : P.count ≡ Q.count
  pub few : P.count ≤ 8
  pub frame : P.frame ≡ Q.frame
  pub table : P.table ≡ Q.table
  pub wide : P.wide ≡ Q.wide
  pub form : P.form ≡ Q.form
  pub token : (q : ℕ) → U q → P.token q ≡ Q.token q

-- the same state, but for the readers of those partitions
pub record Same (U : ℕ → Type 0) (S T : State) : Type 0 where
  pub reader : S.reader ≡ T.reader
  pub eight : length S.readers ≡ 8
  pub eight' : length T.readers ≡ 8
  pub readers : (q : ℕ) → U q → get_or S.readers q no_reader_of ≡ get_or T.readers q no_reader_of
  pub left : S.left ≡ T.left
  pub mem : S.mem ≡ T.mem

module _ {U : ℕ → Type 0} {P Q : Picture} (t : Twins U P Q) where
  part_same : (k : ℕ) → partition_of P k ≡ partition_of Q k
  part_same k = λ i. pick_of (k / t.wide i) (t.count i)

  module _ {S T : State} (s : Same U S T) (k : ℕ) (u : U (partition_of P k)) where
    -- what is worked out of what macroblock k finds
    pub found_same : {A : Type 0} (F : (first tokens : List ℕ) → Readers → Frame → (table : List ℕ) → Around → Place → Planes → A)
        → F P.first (P.token (partition_of P k)) (readers_at S (partition_of P k)) P.frame P.table (around_at P S (column_of P k)) (place_of P k) (planes_in S.mem)
        ≡ F Q.first (Q.token (partition_of Q k)) (readers_at T (partition_of Q k)) Q.frame Q.table (around_at Q T (column_of Q k)) (place_of Q k) (planes_in T.mem)
    found_same F =
        let a : P.token (partition_of P k) ≡ Q.token (partition_of Q k) = t.token (partition_of P k) u ∙ ap Q.token (part_same k) in
        let b : get_or S.readers (partition_of P k) no_reader_of ≡ get_or T.readers (partition_of Q k) no_reader_of = s.readers (partition_of P k) u ∙ ap (λ (q : ℕ). get_or T.readers q no_reader_of) (part_same k) in
        λ i. F (t.first i) (a i) (record { first = s.reader i; token = b i }) (t.frame i) (t.table i)
        (record { top = column_at (t.form i) (s.mem i).columns (k % t.wide i); left = beside_of (k % t.wide i) (s.left i) })
        (record { column = k % t.wide i; row = k / t.wide i; width = t.wide i * 16 }) (planes_in (s.mem i))

    -- one macroblock of both
    pub step_same : step_at P k S ≡ step_at Q k T
    step_same = step_at_lem P k S ∙ found_same step_of ∙ sym (step_at_lem Q k T)

    -- and what it reads
    pub reads_same : reads_at P k S ≡ reads_at Q k T
    reads_same = reads_at_lem P k S ∙ found_same (λ first tokens readers f table around place planes. reads_of first tokens readers f table around) ∙ sym (reads_at_lem Q k T)

    pub next_same : partition_of P k < P.count → (x : Finished) → Same U (next_of P k S x) (next_of Q k T x)
    next_same h x =
        record {
          reader = refl;
          eight = length-set S.readers (partition_of P k) x.readers.token ∙ s.eight;
          eight' = length-set T.readers (partition_of Q k) x.readers.token ∙ s.eight';
          readers = λ q v. with q v (eq_or q (partition_of P k));
          left = refl;
          mem = λ i. written (t.form i) k (k % t.wide i) (s.mem i) x;
        }
      where
        with : (q : ℕ) → U q → (q ≡ partition_of P k) ⊎ (q ≡ partition_of P k → ⊥) → get_or (set S.readers (partition_of P k) x.readers.token) q no_reader_of ≡ get_or (set T.readers (partition_of Q k) x.readers.token) q no_reader_of
        with q v (inl e) =
            rw (e, ← part_same k)
            (get_or-set_same S.readers (partition_of P k) x.readers.token no_reader_of (rw s.eight (omega (arith, t.few)))
            ∙ sym (get_or-set_same T.readers (partition_of P k) x.readers.token no_reader_of (rw s.eight' (omega (arith, t.few)))))
        with q v (inr n) =
            get_or-set_other S.readers (partition_of P k) q x.readers.token no_reader_of n ∙ s.readers q v
            ∙ sym (get_or-set_other T.readers (partition_of Q k) q x.readers.token no_reader_of (λ e. n (e ∙ sym (part_same k))))

-- ---- macroblocks below b read only partitions in which both agree
module _ {U : ℕ → Type 0} {P Q : Picture} (t : Twins U P Q) (b : ℕ) (used : (k : ℕ) → k < b → U (partition_of P k)) (inside : (k : ℕ) → k < b → partition_of P k < P.count) {S₀ T₀ : State} (s₀ : Same U S₀ T₀) where
  -- what one reaches, the other reaches
  pub record Other (k : ℕ) (S : State) : Type 0 where
    pub state : State
    pub reached : Reached Q T₀ k state
    pub same : Same U S state

  pub other : {k : ℕ} {S : State} → k ≤ b → Reached P S₀ k S → Other k S
  other h start = record { state = T₀; reached = start; same = s₀ }
  other h (after {k} {S} {x} r e) =
      let i : Other k S = other (omega arith) r in
      let l : k < b = omega arith in
      record { state = next_of Q k i.state x; reached = after i.reached (sym (step_same t i.same k (used k l)) ∙ e); same = next_same t i.same k (used k l) (inside k l) x }

  -- so both end alike below b, or both come to b with the same memory
  pub data Split (M : ℕ) : Type 0 where
    alike : run_of M P 0 S₀ ≡ run_of M Q 0 T₀ → Split M
    past : {S T : State} → b < M → Reached P S₀ b S → Reached Q T₀ b T → Same U S T → Split M

  module _ (M : ℕ) where
    further : {k : ℕ} {S : State} → b ≤ k → b < M → Reached P S₀ k S → Split M
    further h l r =
        let a = reached_before b h r in
        let c = other (omega arith) a.reached in
        past l a.reached c.reached c.same

    stopped : (k : ℕ) (S : State) (A : Decoded) (s : Step) → k < M → Reached P S₀ k S → step_at P k S ≡ s
        → ((R : Picture) (X Y : State) → Reached R X k Y → step_at R k Y ≡ s → run_of M R 0 X ≡ record { answer = A; mem = Y.mem }) → Split M
    stopped k S A s h r e f = go (lt_or k b)
      where
        go : (k < b) ⊎ (b ≤ k) → Split M
        go (inl l) =
            let c = other (omega arith) r in
            alike (f P S₀ S r e ∙ ap (λ (m : Memory). record { answer = A; mem = m }) c.same.mem ∙ sym (f Q T₀ c.state c.reached (sym (step_same t c.same k (used k l)) ∙ e)))
        go (inr l) = further l (omega arith) r

    by_ending : {E : Ended} → Ending P S₀ M E → Split M
    by_ending (whole {S} r) = go (lt_or b M)
      where
        go : (b < M) ⊎ (M ≤ b) → Split M
        go (inl l) = further (omega arith) l r
        go (inr l) =
            let c = other l r in
            alike (ends_whole P S₀ M r ∙ ap (λ (m : Memory). record { answer = Ok M; mem = m }) c.same.mem ∙ sym (ends_whole Q T₀ M c.reached))
    by_ending (modes_out {k} {S} h r g) = stopped k S (Err (Stop.NoModes k)) no_modes h r (missing_modes P k S g) (λ R X Y i e. stops_modes R X M h i e)
    by_ending (tokens_out {k} {S} {m} {r} h i g d) = stopped k S (Err (Stop.NoTokens k)) no_tokens h i (missing_tokens P k S m r g d) (λ R X Y i e. stops_tokens R X M h i e)

    pub split : Split M
    split = by_ending (ending P S₀ M)

    -- where no macroblock reads another partition, everything is the same
    pub all_alike : M ≤ b → run_of M P 0 S₀ ≡ run_of M Q 0 T₀
    all_alike h = go split
      where
        go : Split M → run_of M P 0 S₀ ≡ run_of M Q 0 T₀
        go (alike e) = e
        go (past l r q s) = absurd (omega arith)
