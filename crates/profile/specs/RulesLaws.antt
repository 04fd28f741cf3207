-- What the rules' tests say, as facts and both ways; and which macroblock is the first that is both.
use Rattle.std.specs.Prelude.{◌+◌, ◌≤◌, ◌<◌, ◌≡◌, ◌⊎◌}
use Rattle.numbers.specs.Words.{ℕ, zero, suc, arith, refl, Bool, true, false, not, inl, inr, ⊎_elim, eqb, lt_or, eq_or, never, both_left, both_right, both_true, eq-eqb, eqb-true, ne_eqb, List, ℤ, pos, negsuc}
use Rattle.header.specs.Header.{segments_on, map_on, sharpness, entry, present_of, present_at_of}
use Rattle.profile.specs.Profile.{size_fits_of, count_fits_of, segments_fit_of, sharpness_fits_of, both_at, first_both_of}

-- ---- 1
module _ (w h : ℕ) where
  pub size_holds : size_fits_of w h ≡ true → (w ≡ 256) × (h ≡ 256)
  unfolding size_fits_of
  size_holds e = (eqb-true w 256 (both_left (eqb w 256) _ e), eqb-true h 256 (both_right (eqb w 256) _ e))

  pub size_passes : w ≡ 256 → h ≡ 256 → size_fits_of w h ≡ true
  unfolding size_fits_of
  size_passes a b = both_true (eq-eqb w 256 a) (eq-eqb h 256 b)

-- ---- 2
pub count_holds : (n : ℕ) → count_fits_of n ≡ true → (n ≡ 1) ⊎ (n ≡ 2) ⊎ (n ≡ 4)
unfolding count_fits_of
count_holds n e = ⊎_elim inl (λ a. inr (⊎_elim inl (λ b. inr (eqb-true n 4 (rw (ne_eqb n 1 a, ne_eqb n 2 b) at e))) (eq_or n 2))) (eq_or n 1)

pub count_passes : (n : ℕ) → (n ≡ 1) ⊎ (n ≡ 2) ⊎ (n ≡ 4) → count_fits_of n ≡ true
unfolding count_fits_of
count_passes n (inl e) = rw e
count_passes n (inr (inl e)) = rw e
count_passes n (inr (inr e)) = rw e

-- ---- 3 and 4: an entry announces nothing where it is 0, and only there
absent : (z : ℤ) → not (present_of z) ≡ true → z ≡ pos 0
absent (pos zero) e = refl
absent (pos (suc n)) e = absurd (never e refl)
absent (negsuc n) e = absurd (never e refl)

none : (z : ℤ) → z ≡ pos 0 → not (present_of z) ≡ true
none z e = rw e

module _ (h : List ℤ) where
  pub segments_holds : segments_fit_of h ≡ true → (entry h segments_on ≡ pos 0) × (entry h map_on ≡ pos 0)
  unfolding segments_fit_of
  segments_holds e = let b : Bool = not (present_at_of h segments_on) in (absent (entry h segments_on) (both_left b _ e), absent (entry h map_on) (both_right b _ e))

  pub segments_passes : entry h segments_on ≡ pos 0 → entry h map_on ≡ pos 0 → segments_fit_of h ≡ true
  unfolding segments_fit_of
  segments_passes a b = both_true (none (entry h segments_on) a) (none (entry h map_on) b)

  pub sharpness_holds : sharpness_fits_of h ≡ true → entry h sharpness ≡ pos 0
  unfolding sharpness_fits_of
  sharpness_holds = absent (entry h sharpness)

  pub sharpness_passes : entry h sharpness ≡ pos 0 → sharpness_fits_of h ≡ true
  unfolding sharpness_fits_of
  sharpness_passes = none (entry h sharpness)

-- ---- 6: of n macroblocks from k on
module _ (modes : List ℕ) where
  -- the one that is named is both
  pub first_is : (n k : ℕ) → first_both_of n k modes < k + n → both_at modes (first_both_of n k modes) ≡ true
  unfolding first_both_of
  first_is zero k h = absurd (omega arith)
  first_is (suc n) k h = go (both_at modes k) refl (first_is n (suc k))
    where
      go : (b : Bool) → both_at modes k ≡ b → (first_both_of n (suc k) modes < suc k + n → both_at modes (first_both_of n (suc k) modes) ≡ true) → both_at modes (first_both_of (suc n) k modes) ≡ true
      go true e f = rw (e, first_both_of, e)
      go false e f = rw (e, first_both_of) (f (omega (arith, rw (e, first_both_of) at h)))

  -- none before it is
  pub first_before : (n k j : ℕ) → k ≤ j → j < first_both_of n k modes → both_at modes j ≡ false
  unfolding first_both_of
  first_before zero k j l h = absurd (omega arith)
  first_before (suc n) k j l h = go (both_at modes k) refl (first_before n (suc k) j)
    where
      go : (b : Bool) → both_at modes k ≡ b → (suc k ≤ j → j < first_both_of n (suc k) modes → both_at modes j ≡ false) → both_at modes j ≡ false
      go true e f = absurd (omega (arith, rw (e, first_both_of) at h))
      go false e f = ⊎_elim (λ (z : j ≡ k). rw z e) (λ z. f (omega arith) (rw (e, first_both_of) at h)) (eq_or j k)

  -- where none is, it is the one behind them
  pub first_none : (n k : ℕ) → ((j : ℕ) → k ≤ j → j < k + n → both_at modes j ≡ false) → first_both_of n k modes ≡ k + n
  unfolding first_both_of
  first_none zero k h = omega arith
  first_none (suc n) k h =
      let e : both_at modes k ≡ false = h k (omega arith) (omega arith) in
      let i : first_both_of n (suc k) modes ≡ suc k + n = first_none n (suc k) (λ j a b. h j (omega arith) (omega arith)) in
      rw (e, first_both_of) (omega (arith, i))

  -- where one is and none before it, it is that one
  pub first_at : (n k : ℕ) → k < n → both_at modes k ≡ true → ((j : ℕ) → j < k → both_at modes j ≡ false) → first_both_of n 0 modes ≡ k
  first_at n k h e f = ⊎_elim low (λ l. ⊎_elim (λ g. absurd (never e (first_before n 0 k (omega arith) g))) (λ g. omega arith) (lt_or k (first_both_of n 0 modes))) (lt_or (first_both_of n 0 modes) k)
    where
      low : first_both_of n 0 modes < k → first_both_of n 0 modes ≡ k
      low l = absurd (never (first_is n 0 (omega arith)) (f (first_both_of n 0 modes) l))
