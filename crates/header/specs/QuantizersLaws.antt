-- The laws of the quantizers: the tables' ranges, and the answer with good arguments.
use Rattle.std.specs.Prelude.{◌*◌, ◌/◌, ◌≤◌, ◌<◌, ◌≡◌, ◌&&◌}
use Rattle.numbers.specs.Words.{ℕ, Some, None, min, arith, refl, true, false, ltb, both_true, both_false, le-ltb, lt-ltb, ltb-true, List, all_of_any, ℤ}
use Rattle.header.specs.Header.{ydc_delta, y2dc_delta, y2ac_delta, uvdc_delta, uvac_delta, entry, header_of}
use Rattle.header.specs.Quantizers.{Factors, dc_steps, ac_steps, dc_at, ac_at, index_of, index_with, second_ac_of, factors_of_of, quantizers_of}

-- ---- the tables' ranges: each a test of the whole table
pub dc_in : (i : ℕ) {r : ℕ} → r ≡ dc_at i → (r ≡ dc_at i) × (r < 158)
unfolding dc_steps
dc_in i e = (e, rw e (ltb-true _ _ (all_of_any (λ x. ltb x 158) dc_steps 0 refl refl i)))

pub ac_in : (i : ℕ) {r : ℕ} → r ≡ ac_at i → (r ≡ ac_at i) × (r < 285)
unfolding ac_steps
ac_in i e = (e, rw e (ltb-true _ _ (all_of_any (λ x. ltb x 285) ac_steps 0 refl refl i)))

module _ (h : List ℤ) (segment : ℕ) where
  -- ---- the public call: its two answers
  pub segment_ready : header_of h && ltb segment 4 ≡ true → quantizers_of h segment ≡ Some (factors_of_of h segment)
  unfolding quantizers_of
  segment_ready e = rw (e, quantizers_of)

  pub segment_refused : header_of h && ltb segment 4 ≡ false → None ≡ quantizers_of h segment
  unfolding quantizers_of
  segment_refused e = rw (e, quantizers_of)

  pub segment_good : header_of h ≡ true → segment < 4 → quantizers_of h segment ≡ Some (factors_of_of h segment)
  segment_good e l = segment_ready (both_true e (lt-ltb _ _ l))

  pub segment_header : header_of h ≡ false → None ≡ quantizers_of h segment
  segment_header e = segment_refused (rw e)

  pub segment_none : 4 ≤ segment → None ≡ quantizers_of h segment
  segment_none l = segment_refused (both_false (header_of h) (le-ltb _ _ l))

-- the six together, from what each call answered
pub six_are : (h : List ℤ) (segment i : ℕ) → i ≡ index_of h segment → {a b c d e f x y : ℕ}
    → a ≡ dc_at (index_with i (entry h ydc_delta)) → b ≡ ac_at i → c ≡ dc_at (index_with i (entry h y2dc_delta))
    → x ≡ ac_at (index_with i (entry h y2ac_delta)) → d ≡ second_ac_of x
    → y ≡ dc_at (index_with i (entry h uvdc_delta)) → e ≡ min y 132 → f ≡ ac_at (index_with i (entry h uvac_delta))
    → ◌≡◌ {A = Factors} (record { ydc = a; yac = b; y2dc = c * 2; y2ac = d; uvdc = e; uvac = f }) (factors_of_of h segment)
unfolding factors_of_of
six_are h segment i e₀ e₁ e₂ e₃ e₄ e₅ e₆ e₇ e₈ = rw (e₁, e₂, e₃, e₅, e₄, e₇, e₆, e₈, e₀)
