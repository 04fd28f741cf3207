-- The definitions of vp8_transform, as its source has them: each division adds a multiple of the divisor first and takes it off again, and
-- every number of the result is worked out by itself. They are ours, for coefficients that fit 16 bits.
use Rattle.std.specs.Prelude.{◌+◌, ◌/◌, ◌%◌, ◌<◌, ◌≡◌, ◌∷◌, ◌+ℤ◌, ◌-ℤ◌, ◌*ℤ◌}
use Rattle.numbers.specs.Words.{ℕ, zero, suc, arith, refl, sym, ◌∙◌, Bool, true, false, T, lit<, List, [], get_or_build, ℤ, pos, negsuc, le_z, quot_z, rem_z, shr_z, le_z_yes, In, of_eq, ≤ℤ-trans, add_parts, sub_parts_ℤ, times_mono, In_wider, plainly, inside, know, shr, v, known, floor16_source, floor8_source, signed16, wrapped_source, w64}
use Rattle.transform.specs.Transform.{Grid, at, cell, grid_of, transpose_of, scaled_of, pass_of, rows_of, vertical_pass, bias_of, horizontal_pass, result_of, results_of, samples_of, transform_of}
use Rattle.transform.specs.TransformBounds.{vertical_in, horizontal_in}
use Rattle.transform.specs.TransformLaws.{below_four, CoefficientsIn, grid_in, transform_good}

-- ---- the source's definitions
-- z over 65536
abbrev pub floor16 : ℤ → ℤ
floor16 z = quot_z (z +ℤ pos 1099511627776) (pos 65536) -ℤ pos 16777216

-- z over 8
abbrev pub floor8 : ℤ → ℤ
floor8 z = quot_z (z +ℤ pos 1073741824) (pos 8) -ℤ pos 134217728

-- z in 16 bits
abbrev pub wrapped : ℤ → ℤ
wrapped z = signed16 (rem_z (z +ℤ pos 4294967296) (pos 65536))

-- the kth of four
abbrev pick : ℕ → (w x y z : ℤ) → ℤ
pick zero w x y z = w
pick (suc zero) w x y z = x
pick (suc (suc zero)) w x y z = y
pick (suc (suc (suc k))) w x y z = z

-- number k of a line through a pass
abbrev pub pass : (a b c d : ℤ) (k : ℕ) (bias : ℤ) (walsh : Bool) → ℤ
pass a b c d k bias true =
    pick k (a +ℤ b +ℤ c +ℤ d +ℤ bias) (a +ℤ b -ℤ c -ℤ d +ℤ bias) (a -ℤ b -ℤ c +ℤ d +ℤ bias) (a -ℤ b +ℤ c -ℤ d +ℤ bias)
pass a b c d k bias false =
    let u = floor16 (pos 35468 *ℤ b) -ℤ floor16 (pos 20091 *ℤ d) -ℤ d in
    let w = floor16 (pos 20091 *ℤ b) +ℤ b +ℤ floor16 (pos 35468 *ℤ d) in
    pick k (a +ℤ c +ℤ bias +ℤ w) (a -ℤ c +ℤ bias +ℤ u) (a -ℤ c +ℤ bias -ℤ u) (a +ℤ c +ℤ bias -ℤ w)

-- row y, column x after the first pass
abbrev pub vertical : List ℤ → (x y : ℕ) (walsh : Bool) → ℤ
vertical c x y walsh = pass (at c x) (at c (4 + x)) (at c (8 + x)) (at c (12 + x)) y (pos 0) walsh

-- the division by 8; a Walsh result is wrapped
abbrev rounded : ℤ → (walsh : Bool) → ℤ
rounded z true = wrapped (floor8 z)
rounded z false = floor8 z

-- number k of the result
abbrev pub sample : List ℤ → (k : ℕ) (walsh : Bool) → ℤ
sample c k walsh =
    let y = k / 4 in
    rounded (pass (vertical c 0 y walsh) (vertical c 1 y walsh) (vertical c 2 y walsh) (vertical c 3 y walsh) (k % 4) (bias_of walsh) walsh) walsh

-- ---- they are ours
-- `div8`
pub div8_in : {z : ℤ} → In (negsuc 9999999) (pos 10000000) z → In (negsuc 1249999) (pos 1250000) (shr_z z 8)
div8_in i = inside (know w64 (known (plainly i) ∷ []) (shr (v 0) 3) tt)

-- the products of `line`
pub scaled_source : (k : ℕ) {x : ℤ} → T (le_z (negsuc 1099511627775) (pos k *ℤ negsuc 999999)) → In (negsuc 999999) (pos 1000000) x
    → floor16 (pos k *ℤ x) ≡ scaled_of (pos k) x
unfolding scaled_of
scaled_source k t i = floor16_source _ (≤ℤ-trans (le_z_yes t) (times_mono k i.low))

-- the sums of a Walsh line in the source's order
module _ (a b c d bias : ℤ) where
  first : a +ℤ d +ℤ bias +ℤ (b +ℤ c) ≡ a +ℤ b +ℤ c +ℤ d +ℤ bias
  first = of_eq (omega (arith, add_parts a d, add_parts (a +ℤ d) bias, add_parts b c, add_parts (a +ℤ d +ℤ bias) (b +ℤ c), add_parts a b, add_parts (a +ℤ b) c, add_parts (a +ℤ b +ℤ c) d, add_parts (a +ℤ b +ℤ c +ℤ d) bias))

  second : a -ℤ d +ℤ bias +ℤ (b -ℤ c) ≡ a +ℤ b -ℤ c -ℤ d +ℤ bias
  second = of_eq (omega (arith, sub_parts_ℤ a d, add_parts (a -ℤ d) bias, sub_parts_ℤ b c, add_parts (a -ℤ d +ℤ bias) (b -ℤ c), add_parts a b, sub_parts_ℤ (a +ℤ b) c, sub_parts_ℤ (a +ℤ b -ℤ c) d, add_parts (a +ℤ b -ℤ c -ℤ d) bias))

  third : a +ℤ d +ℤ bias -ℤ (b +ℤ c) ≡ a -ℤ b -ℤ c +ℤ d +ℤ bias
  third = of_eq (omega (arith, add_parts a d, add_parts (a +ℤ d) bias, add_parts b c, sub_parts_ℤ (a +ℤ d +ℤ bias) (b +ℤ c), sub_parts_ℤ a b, sub_parts_ℤ (a -ℤ b) c, add_parts (a -ℤ b -ℤ c) d, add_parts (a -ℤ b -ℤ c +ℤ d) bias))

  fourth : a -ℤ d +ℤ bias -ℤ (b -ℤ c) ≡ a -ℤ b +ℤ c -ℤ d +ℤ bias
  fourth = of_eq (omega (arith, sub_parts_ℤ a d, add_parts (a -ℤ d) bias, sub_parts_ℤ b c, sub_parts_ℤ (a -ℤ d +ℤ bias) (b -ℤ c), sub_parts_ℤ a b, add_parts (a -ℤ b) c, sub_parts_ℤ (a -ℤ b +ℤ c) d, add_parts (a -ℤ b +ℤ c -ℤ d) bias))

-- number k of a line
pub pass_source : (walsh : Bool) (a b c d bias : ℤ) → In (negsuc 999999) (pos 1000000) b → In (negsuc 999999) (pos 1000000) d
    → (k : ℕ) → k < 4 → at (pass_of walsh bias a b c d) k ≡ pass a b c d k bias walsh
unfolding pass_of
pass_source true a b c d bias i j =
    below_four (λ k. at (pass_of true bias a b c d) k ≡ pass a b c d k bias true)
    (first a b c d bias) (second a b c d bias) (third a b c d bias) (fourth a b c d bias)
pass_source false a b c d bias i j =
    let e1 = scaled_source 35468 tt i in
    let e2 = scaled_source 20091 tt j in
    let e3 = scaled_source 20091 tt i in
    let e4 = scaled_source 35468 tt j in
    below_four (λ k. at (pass_of false bias a b c d) k ≡ pass a b c d k bias false)
    (rw (e3, e4)) (rw (e1, e2)) (rw (e1, e2)) (rw (e3, e4))

vertical_at : (c : List ℤ) (walsh : Bool) (x : ℕ) → x < 4 → (y : ℕ) → y < 4
    → cell (vertical_pass walsh (grid_of c)) y x ≡ at (pass_of walsh (pos 0) (at c x) (at c (4 + x)) (at c (8 + x)) (at c (12 + x))) y
unfolding grid_of transpose_of rows_of vertical_pass
vertical_at c walsh =
    below_four (λ x. (y : ℕ) → y < 4 → cell (vertical_pass walsh (grid_of c)) y x ≡ at (pass_of walsh (pos 0) (at c x) (at c (4 + x)) (at c (8 + x)) (at c (12 + x))) y)
    (below_four _ refl refl refl refl) (below_four _ refl refl refl refl) (below_four _ refl refl refl refl) (below_four _ refl refl refl refl)

horizontal_at : (g : Grid) (walsh : Bool) (x y : ℕ) → y < 4
    → cell (horizontal_pass walsh g) y x ≡ at (pass_of walsh (bias_of walsh) (cell g y 0) (cell g y 1) (cell g y 2) (cell g y 3)) x
unfolding rows_of horizontal_pass
horizontal_at g walsh x =
    below_four (λ y. cell (horizontal_pass walsh g) y x ≡ at (pass_of walsh (bias_of walsh) (cell g y 0) (cell g y 1) (cell g y 2) (cell g y 3)) x) refl refl refl refl

pub result_source : (walsh : Bool) {z : ℤ} → In (negsuc 1200007) (pos 1200008) z → result_of walsh z ≡ rounded z walsh
result_source true {z} i =
    let e = floor8_source z (In_wider {l' = negsuc 1073741823} {h' = pos 1200008} i tt).low in
    rw e (wrapped_source (In_wider (inside (know w64 (known (plainly i) ∷ []) (shr (v 0) 3) tt)) tt))
result_source false {z} i = sym (floor8_source z (In_wider {l' = negsuc 1073741823} {h' = pos 1200008} i tt).low)

module _ {c : List ℤ} (walsh : Bool) (f : CoefficientsIn c) where
  -- row y, column x of the first pass
  pub vertical_source : (x y : ℕ) → x < 4 → y < 4 → cell (vertical_pass walsh (grid_of c)) y x ≡ vertical c x y walsh
  vertical_source x y p q =
      vertical_at c walsh x p y q ∙
      pass_source walsh (at c x) (at c (4 + x)) (at c (8 + x)) (at c (12 + x)) (pos 0) (In_wider (f.fit (4 + x) (omega arith)) tt)
      (In_wider (f.fit (12 + x) (omega arith)) tt) y q

  -- result k
  pub sample_source : (k : ℕ) → k < 16 → at (samples_of walsh c) k ≡ sample c k walsh
  unfolding samples_of results_of
  sample_source k h =
      let g = vertical_pass walsh (grid_of c) in
      let e = vertical_in walsh (grid_in f) in
      let y = k / 4 in
      let x = k % 4 in
      let p : y < 4 = omega arith in
      let q : x < 4 = omega arith in
      let s = pass_source walsh (cell g y 0) (cell g y 1) (cell g y 2) (cell g y 3) (bias_of walsh) (In_wider (e.at y 1) tt) (In_wider (e.at y 3) tt) x q in
      get_or_build 16 (λ i. result_of walsh (cell (horizontal_pass walsh g) (i / 4) (i % 4))) k (pos 0) h ∙
      result_source walsh ((horizontal_in walsh e).at y x) ∙
      rw (horizontal_at g walsh x y p, s, vertical_source 0 y (lit< tt) p, vertical_source 1 y (lit< tt) p, vertical_source 2 y (lit< tt) p, vertical_source 3 y (lit< tt) p)

  -- what `transform` ensures
  pub transform_source : (k : ℕ) → k < 16 → at (transform_of c walsh).samples k ≡ sample c k walsh
  transform_source k h = rw (transform_good walsh f) (sample_source k h)
