-- What callers cite of the inverse transforms.
use Rattle.std.specs.Prelude.{◌+◌, ◌*◌, ◌/◌, ◌%◌, ◌≤◌, ◌<◌, ◌≡◌, ◌&&◌, ◌∷◌, ◌+ℤ◌, ◌-ℤ◌, ◌*ℤ◌}
use Rattle.numbers.specs.Words.{ℕ, zero, suc, ℕ_discrete, arith, refl, sym, ◌∙◌, ap, Bool, true, false, inl, inr, ltb, T, lit<, lt_or, not_so, both_left, both_right, both_true, cond_at, List, [], get_or, replicate, build, ◌∷≡◌, build_listed, get_or_build, get_or_build_past, get_or_constant, all_below, all_below_lem, ℤ, pos, negsuc, +ℤ_idr, le_z, shr_z, In, Each, Each2, up, dn, of_le, le_true, true_le, add_parts, sub_parts_ℤ, up_times, dn_times, shr_parts, each_[], each_∷, each2_[], each2_∷, floor_is, wrap_in}
use Rattle.transform.specs.Transform.{Transformed, Grid, at, cell, four, grid_row, grid_of, transpose_of, scaled_of, pass_of, line_of, rows_of, vertical_pass, bias_of, horizontal_pass, result_of, results_of, samples_of, fits16, block_fits, transform_of}
pub use Rattle.transform.specs.Pieces.{CoefficientsIn}
use Rattle.transform.specs.Pieces.{PlainTo}
use Rattle.transform.specs.TransformBounds.{numeral_in, vertical_in, horizontal_in, result_in, small_vertical_in, small_horizontal_in, small_result_in}

-- ---- the scaled products: 65536 q is at most k x, and less than 65536 below it
scaled_by : (k : ℕ) (x : ℤ) {q : ℤ} → (65536 * up q + k * dn x ≤ k * up x + 65536 * dn q) × (k * up x + 65536 * dn q < 65536 * up q + k * dn x + 65536) → q ≡ scaled_of (pos k) x
unfolding scaled_of
scaled_by k x {q} h =
    let u = up_times k x in
    let d = dn_times k x in
    let v = up_times 65536 q in
    let e = dn_times 65536 q in
    sym (floor_is 65536 {z = pos k *ℤ x} {q = q} (lit< tt) (record { low = of_le (omega arith); high = of_le (omega (arith, add_parts (pos 65536 *ℤ q) (pos 65535))) }))

-- in the three forms of the code
module _ (x : ℤ) where
  pub by_fours : shr_z (pos 8867 *ℤ x) 16384 ≡ scaled_of (pos 35468) x
  by_fours = scaled_by 35468 x (omega (arith, shr_parts 16384 (pos 8867 *ℤ x) (lit< tt), up_times 8867 x, dn_times 8867 x))

  pub by_halves : shr_z (pos 10045 *ℤ x +ℤ shr_z x 2) 32768 ≡ scaled_of (pos 20091) x
  by_halves =
      let y = pos 10045 *ℤ x in
      let h = shr_z x 2 in
      scaled_by 20091 x (omega (arith, shr_parts 2 x (lit< tt), shr_parts 32768 (y +ℤ h) (lit< tt), add_parts y h, up_times 10045 x, dn_times 10045 x))

  pub by_rest : x +ℤ shr_z (pos 0 -ℤ pos 30068 *ℤ x) 65536 ≡ scaled_of (pos 35468) x
  by_rest =
      let y = pos 30068 *ℤ x in
      let z = pos 0 -ℤ y in
      scaled_by 35468 x (omega (arith, shr_parts 65536 z (lit< tt), sub_parts_ℤ (pos 0) y, add_parts x (shr_z z 65536), up_times 30068 x, dn_times 30068 x))

-- ---- the grid
pub below_four : (P : ℕ → Type 0) → P 0 → P 1 → P 2 → P 3 → (k : ℕ) → k < 4 → P k
below_four P a b c d zero h = a
below_four P a b c d (suc zero) h = b
below_four P a b c d (suc (suc zero)) h = c
below_four P a b c d (suc (suc (suc zero))) h = d
below_four P a b c d (suc (suc (suc (suc k)))) h = absurd (omega arith)

pub transpose_at : (g : Grid) (x : ℕ) → x < 4 → (y : ℕ) → y < 4 → cell (transpose_of g) x y ≡ cell g y x
unfolding transpose_of
transpose_at g =
    below_four (λ x. (y : ℕ) → y < 4 → cell (transpose_of g) x y ≡ cell g y x) (below_four _ refl refl refl refl) (below_four _ refl refl refl refl)
    (below_four _ refl refl refl refl) (below_four _ refl refl refl refl)

-- the first pass, from the four lines of the grid turned, and those turned back
pub vertical_lines : (walsh : Bool) (g : Grid) {t r : Grid} {a b c d : List ℤ} → t ≡ transpose_of g → a ≡ line_of walsh (pos 0) (get_or t 0 []) → b ≡ line_of walsh (pos 0) (get_or t 1 [])
    → c ≡ line_of walsh (pos 0) (get_or t 2 []) → d ≡ line_of walsh (pos 0) (get_or t 3 []) → r ≡ transpose_of (a ∷ b ∷ c ∷ d ∷ []) → r ≡ vertical_pass walsh g
unfolding rows_of vertical_pass
vertical_lines walsh g e a b c d f = f ∙ ap transpose_of (a ∷≡ b ∷≡ c ∷≡ d ∷≡ refl) ∙ ap (λ (t : Grid). transpose_of (rows_of walsh (pos 0) t)) e

-- ---- coefficients
-- what both tests say
pub range_in : (l h z : ℤ) → le_z l z && le_z z h ≡ true → In l h z
range_in l h z e = record { low = true_le l z (both_left (le_z l z) (le_z z h) e); high = true_le z h (both_right (le_z l z) (le_z z h) e) }

pub in_range : {l h z : ℤ} → In l h z → le_z l z && le_z z h ≡ true
in_range i = both_true (le_true i.low) (le_true i.high)

pub fits_in : (z : ℤ) → fits16 z ≡ true → In (negsuc 32767) (pos 32767) z
fits_in z e = range_in (negsuc 32767) (pos 32767) z e

pub below_all : (f : ℕ → Bool) (n : ℕ) → ((i : ℕ) → i < n → f i ≡ true) → all_below n f ≡ true
below_all f zero h = refl
below_all f (suc n) h = both_true (h n (omega arith)) (below_all f n (λ i l. h i (omega arith)))

-- one more number that something holds of
pub below_next : (P : ℕ → Type 0) (k : ℕ) → P k → ((j : ℕ) → j < k → P j) → (j : ℕ) → j < k + 1 → P j
below_next P k p h j l = elim (ℕ_discrete j k) [ yes e ↦ rw e p | no e ↦ h j (omega arith) ]

pub good_fit : {c : List ℤ} → block_fits c ≡ true → CoefficientsIn c
unfolding block_fits
good_fit {c} e = record { fit = λ k h. fits_in (at c k) (all_below_lem (λ i. fits16 (at c i)) 16 e k h) }

pub fit_good : {c : List ℤ} → CoefficientsIn c → block_fits c ≡ true
unfolding block_fits
fit_good {c} f = below_all (λ i. fits16 (at c i)) 16 (λ i h. both_true (le_true (f.fit i h).low) (le_true (f.fit i h).high))

grid_within : {l h : ℤ} → T (le_z l (pos 0) && le_z (pos 0) h) → (c : List ℤ) → ((k : ℕ) → k < 16 → In l h (at c k)) → Each2 l h (grid_of c)
unfolding grid_of
grid_within {l} {h} t c f = each2_∷ (row 0 (lit< tt)) (each2_∷ (row 1 (lit< tt)) (each2_∷ (row 2 (lit< tt)) (each2_∷ (row 3 (lit< tt)) (each2_[] t))))
  where
    row : (y : ℕ) → y < 4 → Each l h (grid_row c (4 * y))
    row y p =
        let n : (x : ℕ) → x < 4 → In l h (at c (4 * y + x)) = λ x q. f (4 * y + x) (omega arith) in
        each_∷ (n 0 (lit< tt)) (each_∷ (n 1 (lit< tt)) (each_∷ (n 2 (lit< tt)) (each_∷ (n 3 (lit< tt)) (each_[] t))))

pub grid_in : {c : List ℤ} → CoefficientsIn c → Each2 (negsuc 32767) (pos 32767) (grid_of c)
grid_in {c} f = grid_within tt c f.fit

-- ---- the answer: the results where all fit, else a refusal
pub transform_good : {c : List ℤ} (walsh : Bool) → CoefficientsIn c → transform_of c walsh ≡ record { number = 0; samples = samples_of walsh c }
unfolding transform_of
transform_good walsh f = rw (fit_good f)

pub transform_refused : {c : List ℤ} (walsh : Bool) → (CoefficientsIn c → ⊥) → transform_of c walsh ≡ record { number = 8; samples = replicate 16 (pos 0) }
unfolding transform_of
transform_refused {c} walsh n = rw (sym (not_so (block_fits c) (λ e. n (good_fit e))))

-- ---- the results: sixteen numbers no further out than 150001, refused or not, and those of Walsh in 16 bits
pub each_build : {l h : ℤ} (n : ℕ) (f : ℕ → ℤ) → In l h (pos 0) → ((k : ℕ) → In l h (f k)) → Each l h (build n f)
each_build {l} {h} n f z p = record { at = go }
  where
    go : (k : ℕ) → In l h (at (build n f) k)
    go k = elim (lt_or k n) [
      | inl e ↦ rw (get_or_build n f k (pos 0) e) (p k)
      | inr e ↦ rw (get_or_build_past n f k (pos 0) e) z
    ]

pub samples_in : {c : List ℤ} (walsh : Bool) → CoefficientsIn c → Each (negsuc 150000) (pos 150001) (samples_of walsh c)
unfolding samples_of results_of
samples_in walsh f =
    let e = horizontal_in walsh (vertical_in walsh (grid_in f)) in
    each_build 16 _ (numeral_in (pos 0) tt) (λ k. result_in walsh (e.at (k / 4) (k % 4)))

-- small coefficients, whose transform stays within 16 bits
pub record SmallIn (c : List ℤ) : Type 0 where
  pub small : (k : ℕ) → k < 16 → In (negsuc 2047) (pos 2047) (at c k)

pub small_samples_in : {c : List ℤ} → SmallIn c → Each (negsuc 32512) (pos 32512) (samples_of false c)
unfolding samples_of results_of
small_samples_in {c} f =
    let e = small_horizontal_in (small_vertical_in (grid_within tt _ f.small)) in
    each_build 16 _ (numeral_in (pos 0) tt) (λ k. small_result_in (e.at (k / 4) (k % 4)))

module _ {cs : List ℤ} {g : Grid} (f : SmallIn cs) (a : g ≡ grid_of cs) where
  pub first_asks : Each2 (negsuc 2047) (pos 2047) g
  first_asks = rw a (grid_within tt _ f.small)

  pub second_asks : {u : Grid} → u ≡ vertical_pass false g → Each2 (negsuc 7999) (pos 8000) u
  second_asks b = rw b (small_vertical_in first_asks)

-- what each stage of the code requires, from what the stages before it answered
module _ (w : Bool) {cs : List ℤ} {g : Grid} (f : CoefficientsIn cs) (a : g ≡ grid_of cs) where
  pub vertical_asks : Each2 (negsuc 32767) (pos 32767) g
  vertical_asks = rw a (grid_in f)

  pub horizontal_asks : {u : Grid} → u ≡ vertical_pass w g → Each2 (negsuc 199999) (pos 200000) u
  horizontal_asks b = rw b (vertical_in w vertical_asks)

  pub results_ask : {u h : Grid} → u ≡ vertical_pass w g → h ≡ horizontal_pass w u → Each2 (negsuc 1200007) (pos 1200008) h
  results_ask b c = rw c (horizontal_in w (horizontal_asks b))

module _ (c : List ℤ) where
  answer : (walsh : Bool) (P : List ℤ → Type 0) → (CoefficientsIn c → P (samples_of walsh c)) → P (replicate 16 (pos 0)) → P (transform_of c walsh).samples
  unfolding transform_of
  answer walsh P f z = cond_at (block_fits c) (λ (t : Transformed). P t.samples) (λ e. f (good_fit e)) (λ e. z)

  zeros_in : {l h : ℤ} → T (le_z l (pos 0) && le_z (pos 0) h) → Each l h (replicate 16 (pos 0))
  zeros_in t = record { at = λ k. rw (get_or_constant 16 k (pos 0)) (numeral_in (pos 0) t) }

  pub transform_in : (walsh : Bool) → Each (negsuc 150000) (pos 150001) (transform_of c walsh).samples
  transform_in walsh = answer walsh (Each (negsuc 150000) (pos 150001)) (samples_in walsh) (zeros_in tt)

  pub transform_walsh_in : Each (negsuc 32767) (pos 32767) (transform_of c true).samples
  unfolding samples_of results_of
  transform_walsh_in =
      answer true (Each (negsuc 32767) (pos 32767)) (λ f. each_build 16 _ (numeral_in (pos 0) tt) (λ k. wrap_in _)) (zeros_in tt)

-- ---- the shortcut
-- a line whose first number alone is not 0, and one of zeros
pass_plain : (walsh : Bool) (bias d : ℤ) → pass_of walsh bias d (pos 0) (pos 0) (pos 0) ≡ four (λ i. d +ℤ bias)
unfolding pass_of scaled_of
pass_plain true bias d = simp +ℤ_idr
pass_plain false bias d = simp +ℤ_idr

pass_zero : (walsh : Bool) → pass_of walsh (pos 0) (pos 0) (pos 0) (pos 0) (pos 0) ≡ four (λ i. pos 0)
unfolding pass_of scaled_of
pass_zero true = refl
pass_zero false = refl

plain_grid : {c : List ℤ} → PlainTo 16 c → grid_of c ≡ grid_of (at c 0 ∷ [])
unfolding grid_of
plain_grid {c} p =
    (refl ∷≡ z 1 tt tt ∷≡ z 2 tt tt ∷≡ z 3 tt tt ∷≡ refl) ∷≡ (z 4 tt tt ∷≡ z 5 tt tt ∷≡ z 6 tt tt ∷≡ z 7 tt tt ∷≡ refl) ∷≡
    (z 8 tt tt ∷≡ z 9 tt tt ∷≡ z 10 tt tt ∷≡ z 11 tt tt ∷≡ refl) ∷≡ (z 12 tt tt ∷≡ z 13 tt tt ∷≡ z 14 tt tt ∷≡ z 15 tt tt ∷≡ refl) ∷≡ refl
  where
    z : (k : ℕ) → T (ltb 0 k) → T (ltb k 16) → at c k ≡ pos 0
    z k a b = p.zero k (lit< a) (lit< b)

plain_vertical : (walsh : Bool) (d : ℤ) → vertical_pass walsh (grid_of (d ∷ [])) ≡ four (λ y. d ∷ pos 0 ∷ pos 0 ∷ pos 0 ∷ [])
unfolding grid_of transpose_of rows_of vertical_pass
plain_vertical walsh d = rw (pass_plain walsh (pos 0) d, pass_zero walsh) (simp +ℤ_idr)

plain_horizontal : (walsh : Bool) (d : ℤ) → horizontal_pass walsh (four (λ y. d ∷ pos 0 ∷ pos 0 ∷ pos 0 ∷ [])) ≡ four (λ y. four (λ x. d +ℤ bias_of walsh))
unfolding rows_of horizontal_pass
plain_horizontal walsh d = rw pass_plain

-- with every coefficient but the first 0, one number stands in all sixteen places
pub shortcut : {c : List ℤ} (walsh : Bool) → PlainTo 16 c → samples_of walsh c ≡ replicate 16 (result_of walsh (at c 0 +ℤ bias_of walsh))
unfolding samples_of results_of
shortcut {c} walsh p = rw (plain_grid p, plain_vertical walsh (at c 0), plain_horizontal walsh (at c 0)) (build_listed 16 _)
