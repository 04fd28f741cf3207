-- The laws of totals: what the tables of one picture add up to, where every value has a place in its table.
use Rattle.std.specs.Prelude.{◌+◌, ◌*◌, ◌≤◌, ◌<◌, ◌≡◌}
use Rattle.numbers.specs.Words.{ℕ, zero, suc, arith, refl, sym, ◌∙◌, ap, Bool, true, false, inl, inr, lt_or, bit_of, bit_small, List, get_or}
use Rattle.lent.specs.Memory.{mode_found}
use Rattle.macroblock.specs.declared.arguments.SymbolCounts.{SymbolCounts}
use Rattle.survey.specs.Survey.{sum_to, same, how_many, segment_at, small_at, sub_mode_at, luma_of, luma_at, chroma_at, skip_at, inside_at, sub_blocks, sub_blocks_to, tallied_of, total_of}
use Rattle.survey.specs.TallyLaws.{same_is, same_not, luma_small, luma_large, tallied_answer, tallied_segment, tallied_luma, tallied_chroma, tallied_skip, tallied_inside, tallied_subs}

-- ---- sums
pub sum_same : (n : ℕ) (f g : ℕ → ℕ) → ((k : ℕ) → k < n → f k ≡ g k) → sum_to n f ≡ sum_to n g
unfolding sum_to
sum_same zero f g h = refl
sum_same (suc n) f g h = λ i. sum_same n f g (λ k l. h k (omega arith)) i + h n (omega arith) i

pub sum_plus : (n : ℕ) (f g : ℕ → ℕ) → sum_to n (λ k. f k + g k) ≡ sum_to n f + sum_to n g
unfolding sum_to
sum_plus zero f g = refl
sum_plus (suc n) f g = omega (arith, sum_plus n f g)

pub sum_constant : (n c : ℕ) → sum_to n (λ k. c) ≡ n * c
unfolding sum_to
sum_constant zero c = omega arith
sum_constant (suc n) c = omega (arith, sum_constant n c)

sum_times : (n c : ℕ) (f : ℕ → ℕ) → sum_to n (λ k. c * f k) ≡ c * sum_to n f
unfolding sum_to
sum_times zero c f = omega arith
sum_times (suc n) c f = omega (arith, sum_times n c f)

-- in either order
sum_swap : (a b : ℕ) (g : ℕ → ℕ → ℕ) → sum_to a (λ x. sum_to b (λ k. g k x)) ≡ sum_to b (λ k. sum_to a (g k))
unfolding sum_to
sum_swap a zero g = sum_constant a 0 ∙ omega arith
sum_swap a (suc b) g = sum_plus a (λ x. sum_to b (λ k. g k x)) (g b) ∙ ap (λ (n : ℕ). n + sum_to a (g b)) (sum_swap a b g)

-- ---- a value counts once in its table
same_none : (rows v : ℕ) → rows ≤ v → sum_to rows (same v) ≡ 0
unfolding sum_to
same_none zero v h = refl
same_none (suc r) v h = omega (arith, same_none r v (omega arith), same_not v r (λ e. omega arith))

same_once : (rows v : ℕ) → v < rows → sum_to rows (same v) ≡ 1
unfolding sum_to
same_once zero v h = absurd (omega arith)
same_once (suc r) v h = elim (lt_or v r) [
  | inl l ↦ omega (arith, same_once r v l, same_not v r (λ e. omega arith))
  | inr l ↦ let e : v ≡ r = omega arith in omega (arith, same_none r v l, ap (same v) (sym e) ∙ same_is v)
]

-- n values, each in its table
pub many_total : (rows n : ℕ) (value : ℕ → ℕ) → ((k : ℕ) → k < n → value k < rows) → sum_to rows (how_many n value) ≡ n
many_total rows n value h = sum_swap rows n (λ k x. same (value k) x) ∙ sum_same n (λ k. sum_to rows (same (value k))) (λ k. 1) (λ k l. same_once rows (value k) (h k l)) ∙ sum_constant n 1 ∙ omega arith

subs_total : (small : Bool) (mode : ℕ → ℕ) → ((i : ℕ) → i < 16 → mode i < 10) → sum_to 10 (sub_blocks small mode) ≡ 16 * bit_of small
unfolding sub_blocks
subs_total true mode h = many_total 10 16 mode h
subs_total false mode h = sum_constant 10 0

-- the luma table has a place for a large mode below 4, and for small the fifth
luma_below : (small : Bool) (mode : ℕ) → (small ≡ false → mode < 4) → luma_of small mode < 5
luma_below true mode h = omega (arith, luma_small true mode refl)
luma_below false mode h = omega (arith, luma_large false mode refl, h refl)

luma_fifth : (small : Bool) (mode : ℕ) → (small ≡ false → mode < 4) → same (luma_of small mode) 4 ≡ bit_of small
luma_fifth true mode h = ap (λ (v : ℕ). same v 4) (sym (luma_small true mode refl)) ∙ same_is 4
luma_fifth false mode h = same_not (luma_of false mode) 4 (λ e. omega (arith, luma_large false mode refl, h refl))

-- ---- the tables of a picture
-- every value has its place
pub record InTables (number n : ℕ) (modes strengths : List ℕ) : Type 0 where
  pub answer : number < 8
  pub segment : (k : ℕ) → k < n → segment_at modes k < 4
  pub large : (k : ℕ) → k < n → small_at modes k ≡ false → sub_mode_at modes k 0 < 4
  pub chroma : (k : ℕ) → k < n → chroma_at modes k < 4
  pub inside : (k : ℕ) → k < n → inside_at strengths k < 2
  pub sub : (k : ℕ) → k < n → (i : ℕ) → i < 16 → sub_mode_at modes k i < 10

module _ (number n : ℕ) (reads : SymbolCounts) (modes strengths : List ℕ) (g : InTables number n modes strengths) where
  abbrev t : List ℕ
  t = tallied_of number n reads modes strengths

  -- a table by its places
  by : (from rows : ℕ) (f : ℕ → ℕ) → ((y : ℕ) → y < rows → get_or t (from + y) 0 ≡ f y) → total_of from rows t ≡ sum_to rows f
  by from rows f h = sum_same rows (λ y. get_or t (from + y) 0) f h

  pub answers_total : total_of 0 8 t ≡ 1
  answers_total =
      by 0 8 (same number) (λ y h. let z : 0 + y ≡ y = omega arith in ap (λ (i : ℕ). get_or t i 0) z ∙ tallied_answer number n reads modes strengths y h) ∙ same_once 8 number g.answer

  pub segments_total : total_of 8 4 t ≡ n
  segments_total = by 8 4 (how_many n (segment_at modes)) (tallied_segment number n reads modes strengths) ∙ many_total 4 n (segment_at modes) g.segment

  pub lumas_total : total_of 12 5 t ≡ n
  lumas_total = by 12 5 (how_many n (luma_at modes)) (tallied_luma number n reads modes strengths) ∙ many_total 5 n (luma_at modes) (λ k h. luma_below (small_at modes k) (sub_mode_at modes k 0) (g.large k h))

  pub chromas_total : total_of 17 4 t ≡ n
  chromas_total = by 17 4 (how_many n (chroma_at modes)) (tallied_chroma number n reads modes strengths) ∙ many_total 4 n (chroma_at modes) g.chroma

  pub skips_total : total_of 21 2 t ≡ n
  skips_total = by 21 2 (how_many n (skip_at modes)) (tallied_skip number n reads modes strengths) ∙ many_total 2 n (skip_at modes) (λ k h. bit_small (mode_found modes k).kinds.skip)

  pub insides_total : total_of 23 2 t ≡ n
  insides_total = by 23 2 (how_many n (inside_at strengths)) (tallied_inside number n reads modes strengths) ∙ many_total 2 n (inside_at strengths) g.inside

  -- the small ones, behind the large modes
  pub smalls_at : get_or t 16 0 ≡ sum_to n (λ k. bit_of (small_at modes k))
  smalls_at =
      tallied_luma number n reads modes strengths 4 (omega arith)
      ∙ sum_same n (λ k. same (luma_at modes k) 4) (λ k. bit_of (small_at modes k)) (λ k h. luma_fifth (small_at modes k) (sub_mode_at modes k 0) (g.large k h))

  -- sixteen times the small ones
  pub subs_total_is : total_of 25 10 t ≡ 16 * sum_to n (λ k. bit_of (small_at modes k))
  subs_total_is =
      by 25 10 (sub_blocks_to n modes) (tallied_subs number n reads modes strengths) ∙ sum_swap 10 n (λ k. sub_blocks (small_at modes k) (sub_mode_at modes k))
      ∙ sum_same n (λ k. sum_to 10 (sub_blocks (small_at modes k) (sub_mode_at modes k))) (λ k. 16 * bit_of (small_at modes k)) (λ k h. subs_total (small_at modes k) (sub_mode_at modes k) (g.sub k h))
      ∙ sum_times n 16 (λ k. bit_of (small_at modes k))
