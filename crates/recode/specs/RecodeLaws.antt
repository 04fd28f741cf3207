-- The laws of a tile's token symbols: those of one macroblock, and of a run.
use Rattle.std.specs.Prelude.{◌+◌, ◌*◌, ◌≤◌, ◌<◌, ◌≡◌, ◌++◌}
use Rattle.numbers.specs.Words.{ℕ, zero, suc, arith, refl, sym, ◌∙◌, ap, subst, List, [], length, get_or, length-append, Ok, Err}
use Rattle.reader.specs.declared.boolean.Reader.{Reader}
use Rattle.reader.specs.Reading.{Given, given, missing, no_reader_of, CodedSymbol, trace, count}
use Rattle.reader.specs.ReadingLaws.{Bytes, Each, nil, Byte, each_append, trace_within, trace_bytes}
use Rattle.modes.specs.Modes.{Macroblock}
use Rattle.header.specs.Frame.{factors_at}
use Rattle.residual.specs.ResidualLaws.{residual_within}
use Rattle.lent.specs.Memory.{Memory}
use Rattle.macroblock.specs.declared.arguments.SymbolCounts.{SymbolCounts}
use Rattle.macroblock.specs.Macroblock.{macroblock_token_reads, reads_of, Finished, Step, finished, no_modes, no_tokens, Ready}
use Rattle.macroblock.specs.StepLaws.{Both, step_both}
use Rattle.choices.specs.declared.answer.Refusal.{Refusal}
use Rattle.choices.specs.declared.answer.Stop.TheVariants as Stop
use Rattle.picture.specs.Picture.{Picture, State, Ended, column_of, partition_of, planes_in, place_of, readers_at, around_at, step_at, next_of, Shared, Live, reads_at, reads_from}
use Rattle.picture.specs.PictureLaws.{step_at_lem, column_below, partition_below, ready_at, ends_at, live_next}
use Rattle.picture.specs.CountsLaws.{reads_none, reads_finished, reads_no_modes, reads_no_tokens, reads_at_lem}
use Rattle.recode.specs.Recode.{modes_asked, token_grammar, read_by, tokens_from}

-- a picture that can be run: what the checks say, and bytes that are bytes
pub record Sound (P : Picture) : Type 0 where
  pub shared : Shared P
  pub first : Bytes P.first
  pub tokens : (q : ℕ) → q < P.count → Bytes (P.token q)

-- ---- one macroblock
module _ (P : Picture) (k : ℕ) (S : State) where
  pub read_by_lem : {m : Macroblock} {r : Reader} → modes_asked P k S ≡ given m r → read_by P k S ≡ trace (token_grammar P k S m) (P.token (partition_of P k)) (get_or S.readers (partition_of P k) no_reader_of)
  unfolding read_by
  read_by_lem e = rw (e, read_by)

  read_none : modes_asked P k S ≡ missing → read_by P k S ≡ []
  unfolding read_by
  read_none e = rw (e, read_by)

  pub both_at_lem : {x : Finished} → step_at P k S ≡ finished x → Both P.first (P.token (partition_of P k)) (readers_at S (partition_of P k)) P.frame P.table (around_at P S (column_of P k)) (place_of P k) (planes_in S.mem) x
  both_at_lem e = step_both P.first (P.token (partition_of P k)) (readers_at S (partition_of P k)) P.frame P.table (around_at P S (column_of P k)) (place_of P k) (planes_in S.mem) (sym (step_at_lem P k S) ∙ e)

  pub tokens_finished : (n : ℕ) {x : Finished} → step_at P k S ≡ finished x → tokens_from (suc n) P k S ≡ read_by P k S ++ tokens_from n P (k + 1) (next_of P k S x)
  unfolding tokens_from
  tokens_finished n e = rw (e, tokens_from)

  tokens_no_modes : (n : ℕ) → step_at P k S ≡ no_modes → tokens_from (suc n) P k S ≡ read_by P k S
  unfolding tokens_from
  tokens_no_modes n e = rw (e, tokens_from)

  tokens_no_tokens : (n : ℕ) → step_at P k S ≡ no_tokens → tokens_from (suc n) P k S ≡ read_by P k S
  unfolding tokens_from
  tokens_no_tokens n e = rw (e, tokens_from)

  -- what it finds is in range, and what it leaves
  module _ (z : Sound P) (l : Live P S) (h : k < P.wide * P.high) where
    below : partition_of P k < P.count
    below = partition_below P k h z.shared.least

    pub ready_here : Ready P.first (P.token (partition_of P k)) (readers_at S (partition_of P k)) P.frame P.table (around_at P S (column_of P k))
    ready_here = ready_at P S k z.shared l h (column_of P k) (partition_of P k) (column_below P k h) below refl refl

    pub live_after : {x : Finished} → step_at P k S ≡ finished x → Live P (next_of P k S x)
    live_after {x} e = live_next P S k z.shared l h x (ends_at P S k z.shared l h z.first (z.tokens (partition_of P k) below) x e)

-- a run that ends whole is not one that stops
pub whole_not_modes : {M k : ℕ} {m n : Memory} → ◌≡◌ {A = Ended} (record { answer = Err (Stop.NoModes k); mem = m }) (record { answer = Ok M; mem = n }) → ⊥
whole_not_modes e = let z : ◌≡◌ {A = ℕ} 0 1 = ap (λ (x : Ended). elim x.answer [ Ok k ↦ 1 | Err s ↦ 0 ]) e in omega arith

pub whole_not_tokens : {M k : ℕ} {m n : Memory} → ◌≡◌ {A = Ended} (record { answer = Err (Stop.NoTokens k); mem = m }) (record { answer = Ok M; mem = n }) → ⊥
whole_not_tokens e = let z : ◌≡◌ {A = ℕ} 0 1 = ap (λ (x : Ended). elim x.answer [ Ok k ↦ 1 | Err s ↦ 0 ]) e in omega arith

pub whole_not_refused : {M : ℕ} {r : Refusal} {m n : Memory} → ◌≡◌ {A = Ended} (record { answer = Err (Stop.Refused r); mem = m }) (record { answer = Ok M; mem = n }) → ⊥
whole_not_refused e = let z : ◌≡◌ {A = ℕ} 0 1 = ap (λ (x : Ended). elim x.answer [ Ok k ↦ 1 | Err s ↦ 0 ]) e in omega arith

-- ---- each symbol's probability is a byte, and there are at most 7296 a macroblock
pub record Few (n : ℕ) (qs : List CodedSymbol) : Type 0 where
  pub bytes : Each Byte qs
  pub most : length qs ≤ n

module _ {P : Picture} (z : Sound P) where
  read_few : (k : ℕ) (S : State) → Live P S → k < P.wide * P.high → Few 7296 (read_by P k S)
  read_few k S l h = go (modes_asked P k S) refl
    where
      go : (x : Given Macroblock) → modes_asked P k S ≡ x → Few 7296 (read_by P k S)
      go missing e = subst (Few 7296) (sym (read_none P k S e)) (record { bytes = nil; most = omega arith })
      go (given m r) e =
          let y = ready_here P k S z l h in
          let w = residual_within P.table (factors_at P.frame m.segment) z.shared.bytes m.small m.skip y.top y.left in
          subst (Few 7296) (sym (read_by_lem P k S e)) (record { bytes = trace_bytes _ _ w; most = trace_within _ _ w })

  pub tokens_few : (n k : ℕ) (S : State) → Live P S → k + n ≤ P.wide * P.high → Few (7296 * n) (tokens_from n P k S)
  unfolding tokens_from
  tokens_few zero k S l h = record { bytes = nil; most = omega arith }
  tokens_few (suc n) k S l h = go (λ T. tokens_few n (k + 1) T) (step_at P k S) refl
    where
      here : Few 7296 (read_by P k S)
      here = read_few k S l (omega arith)

      go : ((T : State) → Live P T → k + 1 + n ≤ P.wide * P.high → Few (7296 * n) (tokens_from n P (k + 1) T)) → (x : Step) → step_at P k S ≡ x → Few (7296 * suc n) (tokens_from (suc n) P k S)
      go ih (finished x) e =
          let i = ih (next_of P k S x) (live_after P k S z l (omega arith) e) (omega arith) in
          subst (Few (7296 * suc n)) (sym (tokens_finished P k S n e))
          (record { bytes = each_append here.bytes i.bytes; most = omega (arith, length-append (read_by P k S) (tokens_from n P (k + 1) (next_of P k S x)), here.most, i.most) })
      go ih no_modes e = subst (Few (7296 * suc n)) (sym (tokens_no_modes P k S n e)) (record { bytes = here.bytes; most = omega (arith, here.most) })
      go ih no_tokens e = subst (Few (7296 * suc n)) (sym (tokens_no_tokens P k S n e)) (record { bytes = here.bytes; most = omega (arith, here.most) })

-- ---- their number is what the picture call counts (M-103)
module _ (P : Picture) (k : ℕ) (S : State) where
  read_count : (reads_at P k S).tokens ≡ length (read_by P k S)
  unfolding read_by reads_of count
  read_count = ap (λ (r : SymbolCounts). r.tokens) (reads_at_lem P k S) ∙ after (modes_asked P k S)
    where
      after : (g : Given Macroblock) → macroblock_token_reads (P.token (partition_of P k)) (readers_at S (partition_of P k)).token P.frame P.table (around_at P S (column_of P k)) g
          ≡ length {A = CodedSymbol} (elim g [ missing ↦ [] | given m r ↦ trace (token_grammar P k S m) (P.token (partition_of P k)) (get_or S.readers (partition_of P k) no_reader_of) ])
      after (given m r) = refl
      after missing = refl

pub tokens_count_lem : (n : ℕ) (P : Picture) (k : ℕ) (S : State) → (reads_from n P k S).tokens ≡ length (tokens_from n P k S)
unfolding tokens_from
tokens_count_lem zero P k S = ap (λ (r : SymbolCounts). r.tokens) (reads_none P k S)
tokens_count_lem (suc n) P k S = go (λ T. tokens_count_lem n P (k + 1) T) (step_at P k S) refl
  where
    go : ((T : State) → (reads_from n P (k + 1) T).tokens ≡ length (tokens_from n P (k + 1) T)) → (x : Step) → step_at P k S ≡ x → (reads_from (suc n) P k S).tokens ≡ length (tokens_from (suc n) P k S)
    go ih (finished x) e =
        ap (λ (r : SymbolCounts). r.tokens) (reads_finished n P k S x e) ∙ (λ i. read_count P k S i + ih (next_of P k S x) i)
        ∙ sym (ap length (tokens_finished P k S n e) ∙ length-append (read_by P k S) (tokens_from n P (k + 1) (next_of P k S x)))
    go ih no_modes e = ap (λ (r : SymbolCounts). r.tokens) (reads_no_modes n P k S e) ∙ read_count P k S ∙ sym (ap length (tokens_no_modes P k S n e))
    go ih no_tokens e = ap (λ (r : SymbolCounts). r.tokens) (reads_no_tokens n P k S e) ∙ read_count P k S ∙ sym (ap length (tokens_no_tokens P k S n e))
