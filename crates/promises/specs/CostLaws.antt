-- The proofs of M-103's promises: `cost_at_most`, `cost_is`, `same_costs` and `old_memory_costs_the_same`.
use Rattle.std.specs.Prelude.{◌+◌, ◌*◌, ◌/◌, ◌≤◌, ◌<◌, ◌≡◌, ◌⊎◌, ◌++◌}
use Rattle.numbers.specs.Words.{ℕ, zero, suc, mul_comm, mul-le-mul_right, arith, refl, sym, ◌∙◌, ap, ap₂, subst, ⊎_elim, lt_or, eq_or, List, length, length-append, Ok, Err}
use Rattle.reader.specs.Reading.{Given, given, missing, CodedSymbol, count}
use Rattle.reader.specs.ReadingLaws.{Bytes}
use Rattle.modes.specs.Modes.{Macroblock}
use Rattle.lent.specs.Memory.{Memory}
use Rattle.macroblock.specs.declared.arguments.SymbolCounts.{SymbolCounts}
use Rattle.macroblock.specs.Macroblock.{Finished, Step, finished, no_modes, no_tokens, macroblock_token_reads, reads_of, AtMost}
use Rattle.choices.specs.declared.answer.Stop.TheVariants as Stop
use Rattle.choices.specs.Choices.{Call, number_of, values_of, Decoded}
use Rattle.picture.specs.Picture.{Picture, State, column_of, partition_of, readers_at, around_at, step_at, next_of, pictured_of, start_of, begun_of, picture_of, plus, reads_at, reads_from, cost_of, asked_of}
use Rattle.picture.specs.CountsLaws.{reads_none, reads_finished, reads_no_modes, reads_no_tokens, reads_at_lem, cost_bad, cost_good, cost_most}
use Rattle.promises.specs.Refusals.{Fine, blank_same, sizes_same}
use Rattle.promises.specs.Reached.{modes_asked}
use Rattle.promises.specs.Stops.{macroblocks}
use Rattle.promises.specs.TwoRuns.{Twins, Same, step_same, reads_same, next_same}
use Rattle.promises.specs.Isolation.{SameTokens, Alike}
use Rattle.promises.specs.IsolationLaws.{twins, start_same, inside, apart, Rest}
use Rattle.promises.specs.Cost.{CostAtMost, mode_symbols, symbols_after, token_symbols, symbols_from, CostIs, SameCosts}

-- ---- the bound
asked_whole : (d : Decoded) (k : ℕ) → number_of d ≡ 0 → values_of d ≡ k → asked_of d ≤ k
asked_whole (Ok n) k e f = omega arith
asked_whole (Err (Stop.Refused n)) k e f = omega arith
asked_whole (Err (Stop.NoModes n)) k e f = absurd (omega arith)
asked_whole (Err (Stop.NoTokens n)) k e f = absurd (omega arith)

asked_next : (d : Decoded) (k : ℕ) → values_of d ≡ k → asked_of d ≤ k + 1
asked_next (Ok n) k f = omega arith
asked_next (Err (Stop.Refused n)) k f = omega arith
asked_next (Err (Stop.NoModes n)) k f = omega arith
asked_next (Err (Stop.NoTokens n)) k f = omega arith

more : {j : ℕ} {reads : SymbolCounts} (k : ℕ) → j ≤ k → AtMost j reads → (reads.first ≤ 119 * k) × (reads.tokens ≤ 7296 * k)
more k h a = (omega (arith, a.first), omega (arith, a.tokens))

-- THE BOUND, for every call. That the bytes are bytes is what the call's type says
pub cost_at_most : (t : Call) (m : Memory) → Bytes t.bytes → CostAtMost t m
cost_at_most t m y =
    let d = (picture_of t m).answer in
    let a = cost_most t m y in
    record {
      whole = λ k s. more k (asked_whole d k s.0 s.1) a;
      modes = λ k s. more (k + 1) (asked_next d k s.1) a;
      tokens = λ k s. more (k + 1) (asked_next d k s.1) a;
      none = cost_bad t m refl;
    }

-- ---- what is counted
module _ (P : Picture) (k : ℕ) (S : State) where
  after_count_lem : (g : Given Macroblock) → macroblock_token_reads (P.token (partition_of P k)) (readers_at S (partition_of P k)).token P.frame P.table (around_at P S (column_of P k)) g ≡ length (symbols_after P k S g)
  unfolding count
  after_count_lem (given m next) = refl
  after_count_lem missing = refl

  listed : reads_at P k S ≡ record { first = length (mode_symbols P k S); tokens = length (token_symbols P k S) }
  unfolding reads_of count
  listed = reads_at_lem P k S ∙ (λ i. record { first = length (mode_symbols P k S); tokens = after_count_lem (modes_asked P k S) i })

finished_length : (f : Picture → ℕ → State → List CodedSymbol) (n : ℕ) (P : Picture) (k : ℕ) (S : State) (x : Finished) → step_at P k S ≡ finished x
    → length (f P k S) + length (symbols_from f n P (k + 1) (next_of P k S x)) ≡ length (symbols_from f (suc n) P k S)
unfolding symbols_from
finished_length f n P k S x e =
    let g : symbols_from f (suc n) P k S ≡ f P k S ++ symbols_from f n P (k + 1) (next_of P k S x) = rw (e, symbols_from) in
    sym (ap length g ∙ length-append (f P k S) (symbols_from f n P (k + 1) (next_of P k S x)))

lists : ℕ → Picture → ℕ → State → SymbolCounts
lists n P k S = record { first = length (symbols_from mode_symbols n P k S); tokens = length (symbols_from token_symbols n P k S) }

lists_from : (n : ℕ) (P : Picture) (k : ℕ) (S : State) → reads_from n P k S ≡ lists n P k S
unfolding symbols_from lists
lists_from zero P k S = reads_none P k S
lists_from (suc n) P k S = go (λ T. lists_from n P (k + 1) T) (step_at P k S) refl
  where
    go : ((T : State) → reads_from n P (k + 1) T ≡ lists n P (k + 1) T) → (x : Step) → step_at P k S ≡ x → reads_from (suc n) P k S ≡ lists (suc n) P k S
    go ih (finished x) e =
        reads_finished n P k S x e ∙ ap₂ plus (listed P k S) (ih (next_of P k S x))
        ∙ (λ i. record { first = finished_length mode_symbols n P k S x e i; tokens = finished_length token_symbols n P k S x e i })
    go ih no_modes e = reads_no_modes n P k S e ∙ listed P k S ∙ rw (e, symbols_from)
    go ih no_tokens e = reads_no_tokens n P k S e ∙ listed P k S ∙ rw (e, symbols_from)

pub cost_is : (t : Call) (m : Memory) → Fine t m → CostIs t m
unfolding lists
cost_is t m e =
    let g = cost_good t m (sym e) refl ∙ lists_from (macroblocks t) (pictured_of t) 0 (begun_of t m) in
    record { first = ap (λ (r : SymbolCounts). r.first) g; tokens = ap (λ (r : SymbolCounts). r.tokens) g }

-- ---- two pictures that agree in every partition that is read
module _ {U : ℕ → Type 0} {P Q : Picture} (t : Twins U P Q) (b : ℕ) (used : (k : ℕ) → k < b → U (partition_of P k)) (inside : (k : ℕ) → k < b → partition_of P k < P.count) where
  reads_alike : (n k : ℕ) (S T : State) → k + n ≤ b → Same U S T → reads_from n P k S ≡ reads_from n Q k T
  reads_alike zero k S T h s = reads_none P k S ∙ sym (reads_none Q k T)
  reads_alike (suc n) k S T h s = go (λ x. reads_alike n (k + 1) (next_of P k S x) (next_of Q k T x) (omega arith)) (step_at P k S) refl
    where
      l : k < b
      l = omega arith

      other : {x : Step} → step_at P k S ≡ x → step_at Q k T ≡ x
      other e = sym (step_same t s k (used k l)) ∙ e

      here : reads_at P k S ≡ reads_at Q k T
      here = reads_same t s k (used k l)

      go : ((x : Finished) → Same U (next_of P k S x) (next_of Q k T x) → reads_from n P (k + 1) (next_of P k S x) ≡ reads_from n Q (k + 1) (next_of Q k T x)) → (x : Step) → step_at P k S ≡ x → reads_from (suc n) P k S ≡ reads_from (suc n) Q k T
      go ih (finished x) e = reads_finished n P k S x e ∙ ap₂ plus here (ih x (next_same t s k (used k l) (inside k l) x)) ∙ sym (reads_finished n Q k T x (other e))
      go ih no_modes e = reads_no_modes n P k S e ∙ here ∙ sym (reads_no_modes n Q k T (other e))
      go ih no_tokens e = reads_no_tokens n P k S e ∙ here ∙ sym (reads_no_tokens n Q k T (other e))

module _ (p : ℕ) (t u : Call) (m n : Memory) (a : Alike p t u) (e : Fine t m) (f : Fine u n) where
  second_cost : cost_of u n ≡ reads_from (macroblocks t) (pictured_of u) 0 (begun_of u n)
  second_cost = cost_good u n (sym f) refl ∙ sym (λ i. reads_from (a.width i / 16 * (a.height i / 16)) (pictured_of u) 0 (begun_of u n))

  module _ (U : ℕ → Type 0) (below : (q : ℕ) → U q → q < t.tile.count) (same : (q : ℕ) → U q → SameTokens t u q) where
    all_used : ((k : ℕ) → k < macroblocks t → U (partition_of (pictured_of t) k)) → cost_of t m ≡ cost_of u n
    all_used used =
        cost_good t m (sym e) refl
        ∙ reads_alike (twins p t u m n a e f U below same) (macroblocks t) used (λ k h. inside p t u m n a e f k) (macroblocks t) 0 (begun_of t m) (begun_of u n) (omega arith) (start_same p t u m n a e f U below same)
        ∙ sym second_cost

  costs_equal : ((q : ℕ) → q < t.tile.count → SameTokens t u q) → cost_of t m ≡ cost_of u n
  costs_equal s = all_used (λ q. q < t.tile.count) (λ q h. h) s (λ k h. inside p t u m n a e f k)

  past_cost : t.tile.count ≤ p → cost_of t m ≡ cost_of u n
  past_cost h = costs_equal (λ q l. a.tokens q l (λ z. omega arith))

  rows_cost : t.tile.height / 16 ≤ p → p < t.tile.count → cost_of t m ≡ cost_of u n
  rows_cost l h =
      all_used (Rest p t u m n a e f) (λ q r. r.0) (λ q r. a.tokens q r.0 r.1)
      (λ k i. (
        inside p t u m n a e f k,
        apart p t u m n a e f h k
            (omega (arith, mul-le-mul_right {m = t.tile.height / 16} {n = p} (t.tile.width / 16) l, mul_comm (t.tile.width / 16) (t.tile.height / 16))),
      ))

  nothing_cost : SameTokens t u p → cost_of t m ≡ cost_of u n
  nothing_cost s = costs_equal (λ q l. ⊎_elim (λ (z : q ≡ p). subst (SameTokens t u) (sym z) s) (λ z. a.tokens q l z) (eq_or q p))

  -- the counts' part of demand 3
  pub same_costs : SameCosts p t u m n
  same_costs = record {
    no_row = λ l. ⊎_elim (rows_cost l) past_cost (lt_or p t.tile.count);
    no_difference = nothing_cost;
    ignored = past_cost;
  }

-- what lent memory held before the call does not matter
pub old_memory_costs_the_same : (t : Call) (m n : Memory) → Fine t m → Fine t n → cost_of t m ≡ cost_of t n
old_memory_costs_the_same t m n e f =
    cost_good t m (sym e) refl
    ∙ ap (λ (b : Memory). reads_from (macroblocks t) (pictured_of t) 0 (start_of t.bytes t.tile b)) (blank_same m n (sizes_same t t m n refl refl refl e f))
    ∙ sym (cost_good t n (sym f) refl)
