-- The definitions of vp8_residual, as its source has them: the results of the second-order block stand apart until a luma block takes its
-- first coefficient from them, and each block stands by itself. They are ours, once the blocks are laid one after the other.
use Rattle.std.specs.Prelude.{◌+◌, ◌*◌, ◌/◌, ◌%◌, ◌≤◌, ◌<◌, ◌≡◌, ◌≢◌, ◌&&◌}
use Rattle.numbers.specs.Words.{ℕ, zero, suc, arith, refl, sym, ◌∙◌, ap, ap₂, Bool, true, false, inl, inr, ⊎_elim, eqb, ltb, lt_or, eq_or, le-ltb, lt-ltb, ne_eqb, bit_of, List, [], length, get_or, set, replicate, length-replicate, length-set, get_or-set_other, get_or-set_same, build, length_build, build_listed, get_or_build, built, build_same, get_or_constant, Off, length_placed, placed_in, placed_off, ℤ, pos}
use Rattle.reader.specs.declared.boolean.Reader.{Reader}
use Rattle.reader.specs.Reading.{Given, given, missing, Reading, done, run, ◌>>=◌, count}
use Rattle.reader.specs.ReadingLaws.{run_done, run_then, run_stops}
use Rattle.header.specs.declared.quantizers.Factors.{Factors}
use Rattle.coefficients.specs.Block.{Coefficients}
use Rattle.transform.specs.Transform.{samples_of}
use Rattle.residual.specs.Residual.{Kind, FlagsAt, Model, initial, coordinates, second_kind_of, kind_of, coded, flagged, spread, second_place, second, sixteen_at, stored, empty_of, blocks_from, cleared, residual_of}
use Rattle.residual.specs.ResidualLaws.{length_spread}
use Rattle.reader.specs.Counts.{Took}
use Rattle.residual.specs.ResidualSteps.{second_missing, second_ended, advance_missing, advance_ended, blocks_none, blocks_missing, blocks_next}

-- ---- the source's definitions
-- its model: flags, the results of the second-order block, the blocks, whether all are empty
pub record SourceState : Type 0 where
  pub top : List ℕ
  pub left : List ℕ
  pub dc : List ℤ
  pub blocks : List (List ℤ)
  pub empty : Bool

-- before the first block
abbrev pub source_initial : (top left : List ℕ) → SourceState
source_initial top left = record { top = top; left = left; dc = replicate 16 (pos 0); blocks = replicate 24 (replicate 16 (pos 0)); empty = true }

-- a block starts as zeros, but for the first coefficient of a luma block
unfoldable pub source_start : List ℤ → ℕ → List ℤ
source_start dc i = build 16 (λ k. elim (eqb k 0 && ltb i 16) [ true ↦ get_or dc i (pos 0) | false ↦ pos 0 ])

-- after a block: its flag on both sides
abbrev pub passed_source : Kind → FlagsAt → ℕ → (dc : List ℤ) → (blocks : List (List ℤ)) → Bool → SourceState → SourceState
passed_source k p end dc blocks empty m =
    let flag = bit_of (ltb k.first end) in
    record { top = set m.top p.x flag; left = set m.left p.y flag; dc = dc; blocks = blocks; empty = empty }

-- dc_stage
unfoldable pub source_second : List ℕ → Factors → SourceState → Reading SourceState
source_second table f m = do
  c ← coded table (second_kind_of f) second_place m.top m.left (replicate 16 (pos 0))
  done (passed_source (second_kind_of f) second_place c.end (samples_of true c.values) m.blocks m.empty m)

-- small modes have no second-order block
abbrev pub source_dc : List ℕ → Factors → Bool → SourceState → Reading SourceState
source_dc table f true m = done m
source_dc table f false m = source_second table f m

-- advance and finish
module _ (table : List ℕ) (f : Factors) (small : Bool) where
  abbrev next_source : ℕ → Coefficients → SourceState → SourceState
  next_source i c m = passed_source (kind_of f small i) (coordinates i) c.end m.dc (set m.blocks i c.values) (m.empty && empty_of c) m

  -- block i
  unfoldable pub source_advance : ℕ → SourceState → Reading SourceState
  source_advance i m = do
    c ← coded table (kind_of f small i) (coordinates i) m.top m.left (source_start m.dc i)
    done (next_source i c m)

  -- `more` blocks, from block i on
  unfoldable pub source_from : (more i : ℕ) → SourceState → Reading SourceState
  source_from zero i m = done m
  source_from (suc more) i m = do
    next ← source_advance i m
    source_from more (i + 1) next

-- decoded
unfoldable pub source_of : List ℕ → Factors → (small skip : Bool) → (top left : List ℕ) → Reading SourceState
source_of table f small true top left = done (source_initial (cleared small top) (cleared small left))
source_of table f small false top left = do
  m ← source_dc table f small (source_initial top left)
  source_from table f small 24 0 m

-- ---- the blocks laid one after the other: those below i as they were read, the others as they start
abbrev flat_at : ℕ → (dc : List ℤ) → (blocks : List (List ℤ)) → ℕ → ℤ
flat_at i dc blocks j =
    elim (ltb (j / 16) i) [
      | true ↦ get_or (get_or blocks (j / 16) []) (j % 16) (pos 0)
      | false ↦ get_or (source_start dc (j / 16)) (j % 16) (pos 0)
    ]

unfoldable flat_to : ℕ → (dc : List ℤ) → (blocks : List (List ℤ)) → List ℤ
flat_to i dc blocks = build 384 (flat_at i dc blocks)

abbrev laid : ℕ → SourceState → Model
laid i m = record { top = m.top; left = m.left; coefficients = flat_to i m.dc m.blocks; empty = m.empty }

-- all 24
abbrev pub laid_out : SourceState → Model
laid_out m = record { top = m.top; left = m.left; coefficients = build 384 (λ j. get_or (get_or m.blocks (j / 16) []) (j % 16) (pos 0)); empty = m.empty }

-- of a run
abbrev pub laid_given : Given SourceState → Given Model
laid_given (given m r) = given (laid_out m) r
laid_given missing = missing

-- ---- how a block starts
module _ (dc : List ℤ) (i : ℕ) where
  length_start : length (source_start dc i) ≡ 16
  unfolding source_start
  length_start = length_build 16 _

  start_first : i < 16 → get_or (source_start dc i) 0 (pos 0) ≡ get_or dc i (pos 0)
  unfolding source_start
  start_first h = get_or_build 16 _ 0 (pos 0) (omega arith) ∙ rw (lt-ltb i 16 h) refl

  start_rest : (k : ℕ) → k < 16 → (k ≢ 0) → get_or (source_start dc i) k (pos 0) ≡ pos 0
  unfolding source_start
  start_rest k h o = get_or_build 16 _ k (pos 0) h ∙ rw (ne_eqb k 0 o) refl

  start_chroma : 16 ≤ i → get_or (source_start dc i) 0 (pos 0) ≡ pos 0
  unfolding source_start
  start_chroma h = get_or_build 16 _ 0 (pos 0) (omega arith) ∙ rw (le-ltb i 16 h) refl

-- ---- one place of the flat list
flat_read : (dc : List ℤ) (blocks : List (List ℤ)) (i j : ℕ) → j / 16 < i → flat_at i dc blocks j ≡ get_or (get_or blocks (j / 16) []) (j % 16) (pos 0)
flat_read dc blocks i j h = rw (lt-ltb (j / 16) i h, flat_at)

flat_start : (dc : List ℤ) (blocks : List (List ℤ)) (i j : ℕ) → i ≤ j / 16 → flat_at i dc blocks j ≡ get_or (source_start dc (j / 16)) (j % 16) (pos 0)
flat_start dc blocks i j h = rw (le-ltb (j / 16) i h, flat_at)

module _ (dc : List ℤ) (blocks : List (List ℤ)) (i : ℕ) where
  flat_at_lem : (j : ℕ) → j < 384 → get_or (flat_to i dc blocks) j (pos 0) ≡ flat_at i dc blocks j
  unfolding flat_to
  flat_at_lem j h = get_or_build 384 (flat_at i dc blocks) j (pos 0) h

  length_flat : length (flat_to i dc blocks) ≡ 384
  unfolding flat_to
  length_flat = length_build 384 (flat_at i dc blocks)

  -- block i starts as the source says
  sixteen_start : i < 24 → sixteen_at (flat_to i dc blocks) (16 * i) ≡ source_start dc i
  unfolding sixteen_at
  sixteen_start l = sym (built (source_start dc i) 16 (λ k. get_or (flat_to i dc blocks) (16 * i + k) (pos 0)) (pos 0) (length_start dc i) at)
    where
      at : (k : ℕ) → k < 16 → get_or (source_start dc i) k (pos 0) ≡ get_or (flat_to i dc blocks) (16 * i + k) (pos 0)
      at k h =
          let d : (16 * i + k) / 16 ≡ i = omega arith in
          let m : (16 * i + k) % 16 ≡ k = omega arith in
          sym (flat_at_lem (16 * i + k) (omega arith) ∙ flat_start dc blocks i (16 * i + k) (omega arith) ∙ ap₂ (λ (a b : ℕ). get_or (source_start dc a) b (pos 0)) d m)

  -- and stands as it was read afterwards
  module _ (l : i < 24) (n : length blocks ≡ 24) (v : List ℤ) where
    other : (j : ℕ) → (j / 16 ≡ i → ⊥) → flat_at i dc blocks j ≡ flat_at (i + 1) dc (set blocks i v) j
    other j o =
        ⊎_elim
        (λ (h : j / 16 < i). flat_read dc blocks i j h ∙ sym (flat_read dc (set blocks i v) (i + 1) j (omega arith) ∙ ap (λ (b : List ℤ). get_or b (j % 16) (pos 0)) (get_or-set_other blocks i (j / 16) v [] o)))
        (λ (h : i ≤ j / 16). flat_start dc blocks i j h ∙ sym (flat_start dc (set blocks i v) (i + 1) j (omega arith)))
        (lt_or (j / 16) i)

    own : (j : ℕ) → j / 16 ≡ i → get_or v (j % 16) (pos 0) ≡ flat_at (i + 1) dc (set blocks i v) j
    own j e = sym (flat_read dc (set blocks i v) (i + 1) j (omega arith) ∙ ap (λ (b : List ℤ). get_or b (j % 16) (pos 0)) (ap (λ (a : ℕ). get_or (set blocks i v) a []) e ∙ get_or-set_same blocks i v [] (rw n l)))

    off : (j : ℕ) → (j / 16 ≡ i → ⊥) → Off (16 * i) 16 j
    off j o = ⊎_elim (λ (h : j < 16 * i). inl h) (λ (h : 16 * i ≤ j). inr (omega arith)) (lt_or j (16 * i))

    stored_read : stored (flat_to i dc blocks) (16 * i) v ≡ flat_to (i + 1) dc (set blocks i v)
    unfolding flat_to
    stored_read = built _ 384 (flat_at (i + 1) dc (set blocks i v)) (pos 0) (length_placed (flat_to i dc blocks) (16 * i) (λ k. get_or v k (pos 0)) 16 ∙ length_flat) at
      where
        at : (j : ℕ) → j < 384 → get_or (stored (flat_to i dc blocks) (16 * i) v) j (pos 0) ≡ flat_at (i + 1) dc (set blocks i v) j
        at j h = elim (eq_or (j / 16) i) [
          | inl e ↦
              let q : j ≡ 16 * i + j % 16 = omega arith in
              ap (λ (x : ℕ). get_or (stored (flat_to i dc blocks) (16 * i) v) x (pos 0)) q
              ∙ placed_in (flat_to i dc blocks) (16 * i) (λ k. get_or v k (pos 0)) 16 (j % 16) (pos 0) (rw length_flat (omega arith)) (omega arith) ∙ own j e
          | inr o ↦ placed_off (flat_to i dc blocks) (16 * i) (λ k. get_or v k (pos 0)) 16 j (pos 0) (off j o) ∙ flat_at_lem j h ∙ other j o
        ]

-- the first coefficients, spread over zeros
module _ (dc : List ℤ) where
  spread_in : (l : List ℤ) (n k : ℕ) → k < n → 16 * n ≤ length l → get_or (spread l dc n) (16 * k) (pos 0) ≡ get_or dc k (pos 0)
  unfolding spread
  spread_in l zero k h e = absurd (omega arith)
  spread_in l (suc n) k h e = elim (eq_or k n) [
    | inl q ↦ rw q (get_or-set_same (spread l dc n) (16 * n) (get_or dc n (pos 0)) (pos 0) (rw (length_spread l dc n) (omega arith)))
    | inr q ↦ get_or-set_other (spread l dc n) (16 * n) (16 * k) (get_or dc n (pos 0)) (pos 0) (λ z. q (omega arith)) ∙ spread_in l n k (omega arith) (omega arith)
  ]

  spread_off : (l : List ℤ) (n j : ℕ) → ((k : ℕ) → k < n → j ≡ 16 * k → ⊥) → get_or (spread l dc n) j (pos 0) ≡ get_or l j (pos 0)
  unfolding spread
  spread_off l zero j o = refl
  spread_off l (suc n) j o = get_or-set_other (spread l dc n) (16 * n) j (get_or dc n (pos 0)) (pos 0) (o n (omega arith)) ∙ spread_off l n j (λ k h. o k (omega arith))

  spread_start : (blocks : List (List ℤ)) → spread (replicate 384 (pos 0)) dc 16 ≡ flat_to 0 dc blocks
  unfolding flat_to
  spread_start blocks = built _ 384 (flat_at 0 dc blocks) (pos 0) (length_spread (replicate 384 (pos 0)) dc 16 ∙ length-replicate 384 (pos 0)) (λ j h. at j ∙ sym (flat_start dc blocks 0 j (omega arith)))
    where
      none : (j : ℕ) → ((k : ℕ) → k < 16 → j ≡ 16 * k → ⊥) → get_or (spread (replicate 384 (pos 0)) dc 16) j (pos 0) ≡ pos 0
      none j o = spread_off (replicate 384 (pos 0)) 16 j o ∙ get_or_constant 384 j (pos 0)

      at : (j : ℕ) → get_or (spread (replicate 384 (pos 0)) dc 16) j (pos 0) ≡ get_or (source_start dc (j / 16)) (j % 16) (pos 0)
      at j = elim (eq_or (j % 16) 0) [
        | inr o ↦ none j (λ k h e. o (omega arith)) ∙ sym (start_rest dc (j / 16) (j % 16) (omega arith) o)
        | inl e ↦ elim (lt_or (j / 16) 16) [
          | inl h ↦
              let q : j ≡ 16 * (j / 16) = omega arith in
              ap (λ (x : ℕ). get_or (spread (replicate 384 (pos 0)) dc 16) x (pos 0)) q ∙ spread_in (replicate 384 (pos 0)) 16 (j / 16) h (rw (length-replicate 384 (pos 0)) (omega arith)) ∙ sym (rw e (start_first dc (j / 16) h))
          | inr h ↦ none j (λ k l z. omega arith) ∙ sym (rw e (start_chroma dc (j / 16) h))
        ]
      ]

zeros_start : (blocks : List (List ℤ)) → replicate 384 (pos 0) ≡ flat_to 0 (replicate 16 (pos 0)) blocks
unfolding spread
zeros_start blocks = spread_start (replicate 16 (pos 0)) blocks

zeros_laid : (top left : List ℕ) → initial top left ≡ laid_out (source_initial top left)
zeros_laid top left = ap (λ (l : List ℤ). record { top = top; left = left; coefficients = l; empty = true }) (sym (build_listed 384 _))

all_read : (dc : List ℤ) (blocks : List (List ℤ)) → flat_to 24 dc blocks ≡ build 384 (λ j. get_or (get_or blocks (j / 16) []) (j % 16) (pos 0))
unfolding flat_to
all_read dc blocks = build_same 384 _ _ (λ j h. flat_read dc blocks 24 j (omega arith))

-- ---- the grammars
ran : {A : Type 0} {m : Reading A} {s : List ℕ} {r : Reader} {x : Given A} → run m s r ≡ x → Took m s r x (count m s r)
ran e = record { gave = e; took = refl }

module _ (table : List ℕ) (f : Factors) (small : Bool) (s : List ℕ) where
  from_source : (more i : ℕ) (m : SourceState) (r : Reader) → i + more ≡ 24 → length m.blocks ≡ 24 → run (blocks_from table f small more i (laid i m)) s r ≡ laid_given (run (source_from table f small more i m) s r)
  unfolding source_from source_advance
  from_source zero i m r e n =
      let q : i ≡ 24 = omega arith in
      let z : flat_to i m.dc m.blocks ≡ (laid_out m).coefficients = rw q (all_read m.dc m.blocks) in
      (blocks_none table f s (laid i m) r small i).gave ∙ ap (λ (l : List ℤ). given (record { top = m.top; left = m.left; coefficients = l; empty = m.empty }) r) z ∙ sym (ap laid_given (run_done m s r))
  from_source (suc more) i m r e n = go (λ m r. from_source more (i + 1) m r (omega arith)) (run own s r) refl
    where
      own : Reading Coefficients
      own = coded table (kind_of f small i) (coordinates i) m.top m.left (source_start m.dc i)

      starts : {x : Given Coefficients} → run own s r ≡ x → run (coded table (kind_of f small i) (coordinates i) m.top m.left (sixteen_at (flat_to i m.dc m.blocks) (16 * i))) s r ≡ x
      starts w = rw (sixteen_start m.dc m.blocks i (omega arith)) w

      lost : run own s r ≡ missing → run (source_advance table f small i m) s r ≡ missing
      lost w = run_stops _ s own r w

      got : {c : Coefficients} {q : Reader} → run own s r ≡ given c q → run (source_advance table f small i m) s r ≡ given (next_source table f small i c m) q
      got {c} {q} w = run_then _ s own r w ∙ run_done (next_source table f small i c m) s q

      go : ((m : SourceState) (r : Reader) → length m.blocks ≡ 24 → run (blocks_from table f small more (i + 1) (laid (i + 1) m)) s r ≡ laid_given (run (source_from table f small more (i + 1) m) s r))
          → (x : Given Coefficients) → run own s r ≡ x → run (blocks_from table f small (suc more) i (laid i m)) s r ≡ laid_given (run (source_from table f small (suc more) i m) s r)
      go ih missing w =
          (blocks_missing table f s (laid i m) r small i more (advance_missing table f s (laid i m) r small i (ran (starts w)))).gave
          ∙ sym (ap laid_given (run_stops _ s (source_advance table f small i m) r (lost w)))
      go ih (given c q) w =
          (blocks_next table f s (laid i m) r small i more (advance_ended table f s (laid i m) r small i (ran (starts w))) (ran refl)).gave
          ∙ ap (λ (l : List ℤ). run (blocks_from table f small more (i + 1) (flagged (kind_of f small i) (coordinates i) c.end l (m.empty && empty_of c) (laid i m))) s q) (stored_read m.dc m.blocks i (omega arith) n c.values)
          ∙ ih (next_source table f small i c m) q (length-set m.blocks i c.values ∙ n)
          ∙ sym (ap laid_given (run_then _ s (source_advance table f small i m) r (got w)))

  second_source : (m : SourceState) (r : Reader) → m.dc ≡ replicate 16 (pos 0) → length m.blocks ≡ 24 → run (second table f (laid 0 m) >>= blocks_from table f small 24 0) s r ≡ laid_given (run (source_second table f m >>= source_from table f small 24 0) s r)
  unfolding source_second
  second_source m r e n = go (run own s r) refl
    where
      own : Reading Coefficients
      own = coded table (second_kind_of f) second_place m.top m.left (replicate 16 (pos 0))

      next : Coefficients → SourceState
      next c = passed_source (second_kind_of f) second_place c.end (samples_of true c.values) m.blocks m.empty m

      lost : run own s r ≡ missing → run (source_second table f m) s r ≡ missing
      lost w = run_stops _ s own r w

      got : {c : Coefficients} {q : Reader} → run own s r ≡ given c q → run (source_second table f m) s r ≡ given (next c) q
      got {c} {q} w = run_then _ s own r w ∙ run_done (next c) s q

      over : (d : List ℤ) → spread (flat_to 0 m.dc m.blocks) d 16 ≡ flat_to 0 d m.blocks
      over d = rw (e, ← (zeros_start m.blocks)) (spread_start d m.blocks)

      go : (x : Given Coefficients) → run own s r ≡ x → run (second table f (laid 0 m) >>= blocks_from table f small 24 0) s r ≡ laid_given (run (source_second table f m >>= source_from table f small 24 0) s r)
      go missing w = run_stops _ s (second table f (laid 0 m)) r (second_missing table f s (laid 0 m) r (ran w)).gave ∙ sym (ap laid_given (run_stops _ s (source_second table f m) r (lost w)))
      go (given c q) w =
          run_then _ s (second table f (laid 0 m)) r (second_ended table f s (laid 0 m) r (ran w)).gave
          ∙ ap (λ (l : List ℤ). run (blocks_from table f small 24 0 (flagged (second_kind_of f) second_place c.end l m.empty (laid 0 m))) s q) (over (samples_of true c.values))
          ∙ from_source 24 0 (next c) q refl n
          ∙ sym (ap laid_given (run_then _ s (source_second table f m) r (got w)))

begins : (top left : List ℕ) → initial top left ≡ laid 0 (source_initial top left)
begins top left = ap (λ (l : List ℤ). record { top = top; left = left; coefficients = l; empty = true }) (zeros_start (replicate 24 (replicate 16 (pos 0))))

-- THE LAW: what is read is what the source reads, with its blocks laid one after the other
pub residual_source : (table : List ℕ) (f : Factors) (small skip : Bool) (top left s : List ℕ) (r : Reader) → run (residual_of table f small skip top left) s r ≡ laid_given (run (source_of table f small skip top left) s r)
unfolding residual_of source_of
residual_source table f small true top left s r = rw (zeros_laid (cleared small top) (cleared small left)) (run_done _ s r) ∙ sym (ap laid_given (run_done _ s r))
residual_source table f true false top left s r = rw (begins top left) (from_source table f true s 24 0 (source_initial top left) r refl refl)
residual_source table f false false top left s r = rw (begins top left) (second_source table f false s (source_initial top left) r refl refl)
