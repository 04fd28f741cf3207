-- How far the numbers of a transform go: from a limit on what goes in follows one on what comes out, for both transforms and both passes.
use Rattle.std.specs.Prelude.{◌+◌, ◌*◌, ◌/◌, ◌≤◌, ◌&&◌, ◌∷◌, ◌+ℤ◌, ◌-ℤ◌, ◌*ℤ◌}
use Rattle.numbers.specs.Words.{ℕ, suc, mul-le-mul_left, mul-le-mul_right, mul-zero, arith, Bool, true, false, T, lit<, lit≤, List, [], get_or, ℤ, pos, negsuc, neg_ℤ, le_z, shr_z, In, Each, Each2, up, dn, to_le, of_le, add_parts, up_neg, dn_neg, sub_parts_ℤ, up_times, dn_times, shr_parts, In_wider, num, plainly, inside, know, shr, v, known, each_∷, each2_∷, wrap_in, w64}
use Rattle.transform.specs.Transform.{Grid, cell, four, grid_column, transpose_of, scaled_of, pass_of, line_of, rows_of, vertical_pass, bias_of, horizontal_pass, result_of}

-- a numeral between two others
pub numeral_in : (z : ℤ) {l h : ℤ} → T (le_z l z && le_z z h) → In l h z
numeral_in z t = In_wider (inside (num z)) t

pub each2_wider : {l h l' h' : ℤ} {g : Grid} → Each2 l h g → T (le_z l' l && le_z h h') → Each2 l' h' g
each2_wider e t = record { at = λ i j. In_wider (e.at i j) t }

-- ---- within n of 0
abbrev pub Near : ℕ → ℤ → Type 0
Near n z = In (neg_ℤ (pos n)) (pos n) z

near_of_lem : (n : ℕ) (z : ℤ) → up z ≤ n + dn z → dn z ≤ n + up z → Near n z
near_of_lem n z p q = record { low = of_le (omega (arith, up_neg (pos n), dn_neg (pos n))); high = of_le (omega arith) }

near_parts : (n : ℕ) (z : ℤ) → Near n z → (up z ≤ n + dn z) × (dn z ≤ n + up z)
near_parts n z i = (omega (arith, to_le i.high), omega (arith, to_le i.low, up_neg (pos n), dn_neg (pos n)))

pub near_zero : (n : ℕ) → Near n (pos 0)
near_zero n = near_of_lem n (pos 0) (omega arith) (omega arith)

near_more : {m n : ℕ} {z : ℤ} → m ≤ n → Near m z → Near n z
near_more {m} {n} {z} h i = let p = near_parts m z i in near_of_lem n z (omega arith) (omega arith)

near_add : {m n : ℕ} {y z : ℤ} → Near m y → Near n z → Near (m + n) (y +ℤ z)
near_add {m} {n} {y} {z} i j =
    let p = near_parts m y i in
    let q = near_parts n z j in
    let s = add_parts y z in
    near_of_lem (m + n) (y +ℤ z) (omega arith) (omega arith)

near_sub : {m n : ℕ} {y z : ℤ} → Near m y → Near n z → Near (m + n) (y -ℤ z)
near_sub {m} {n} {y} {z} i j =
    let p = near_parts m y i in
    let q = near_parts n z j in
    let s = sub_parts_ℤ y z in
    near_of_lem (m + n) (y -ℤ z) (omega arith) (omega arith)

-- a scaled product goes no further than what is scaled
pub scaled_in : (k : ℕ) {n : ℕ} (x : ℤ) → k ≤ 65536 → Near n x → Near n (scaled_of (pos k) x)
unfolding scaled_of
scaled_in k {n} (pos a) h i =
    let p = near_parts n (pos a) i in
    let s = shr_parts 65536 (pos k *ℤ pos a) (lit< tt) in
    let m : k * a ≤ 65536 * a = mul-le-mul_right a h in
    near_of_lem n (shr_z (pos k *ℤ pos a) 65536) (omega arith) (omega arith)
scaled_in k {n} (negsuc a) h i =
    let p = near_parts n (negsuc a) i in
    let s = shr_parts 65536 (pos k *ℤ negsuc a) (lit< tt) in
    let m : k * suc a ≤ 65536 * suc a = mul-le-mul_right (suc a) h in
    let u = up_times k (negsuc a) in
    let d = dn_times k (negsuc a) in
    let z = mul-zero k in
    near_of_lem n (shr_z (pos k *ℤ negsuc a) 65536) (omega arith) (omega arith)

-- and, where that is not near enough, no further than the product itself
pub scaled_near : (k : ℕ) {n : ℕ} (x : ℤ) → Near n x → Near (k * n / 65536 + 1) (scaled_of (pos k) x)
unfolding scaled_of
scaled_near k {n} (pos a) i =
    let p = near_parts n (pos a) i in
    let s = shr_parts 65536 (pos k *ℤ pos a) (lit< tt) in
    let h : a ≤ n = omega arith in
    let m : k * a ≤ k * n = mul-le-mul_left k h in
    near_of_lem (k * n / 65536 + 1) (shr_z (pos k *ℤ pos a) 65536) (omega arith) (omega arith)
scaled_near k {n} (negsuc a) i =
    let p = near_parts n (negsuc a) i in
    let s = shr_parts 65536 (pos k *ℤ negsuc a) (lit< tt) in
    let h : suc a ≤ n = omega arith in
    let m : k * suc a ≤ k * n = mul-le-mul_left k h in
    let u = up_times k (negsuc a) in
    let d = dn_times k (negsuc a) in
    let z = mul-zero k in
    near_of_lem (k * n / 65536 + 1) (shr_z (pos k *ℤ negsuc a) 65536) (omega arith) (omega arith)

-- ---- a line: six times as far, and 8
line_in : {m n : ℕ} {a b c d : ℤ} → m ≤ n → Near m a → Near m b → Near m c → Near m d → Each (neg_ℤ (pos n)) (pos n) (a ∷ b ∷ c ∷ d ∷ [])
line_in {m} {n} h a b c d =
    each_∷ (near_more h a) (each_∷ (near_more h b) (each_∷ (near_more h c) (each_∷ (near_more h d) (record { at = λ i. near_zero n }))))

pub pass_in : (walsh : Bool) {n : ℕ} {bias a b c d : ℤ} → In (pos 0) (pos 4) bias → Near n a → Near n b → Near n c → Near n d
    → Each (neg_ℤ (pos (6 * n + 8))) (pos (6 * n + 8)) (pass_of walsh bias a b c d)
unfolding pass_of
pass_in true {n} i a b c d =
    let e = In_wider {l' = negsuc 3} {h' = pos 4} i tt in
    let a1 = near_add (near_add a d) e in
    let b1 = near_add b c in
    let c1 = near_sub b c in
    let d1 = near_add (near_sub a d) e in
    line_in (omega arith) (near_add a1 b1) (near_add d1 c1) (near_sub a1 b1) (near_sub d1 c1)
pass_in false {n} i a b c d =
    let e = In_wider {l' = negsuc 3} {h' = pos 4} i tt in
    let a1 = near_add (near_add a c) e in
    let b1 = near_add (near_sub a c) e in
    let c1 = near_sub (near_sub (scaled_in 35468 _ (lit≤ tt) b) (scaled_in 20091 _ (lit≤ tt) d)) d in
    let d1 = near_add (near_add (scaled_in 20091 _ (lit≤ tt) b) b) (scaled_in 35468 _ (lit≤ tt) d) in
    line_in (omega arith) (near_add a1 d1) (near_add b1 c1) (near_sub b1 c1) (near_sub a1 d1)

-- a line of the DCT, nearer
pub dct_in : {n m : ℕ} {bias a b c d : ℤ} → 3 * n + 6 + 35468 * n / 65536 + 20091 * n / 65536 ≤ m
    → In (pos 0) (pos 4) bias → Near n a → Near n b → Near n c → Near n d → Each (neg_ℤ (pos m)) (pos m) (pass_of false bias a b c d)
unfolding pass_of
dct_in {n} {m} h i a b c d =
    let e = In_wider {l' = negsuc 3} {h' = pos 4} i tt in
    let a1 = near_add (near_add a c) e in
    let b1 = near_add (near_sub a c) e in
    let c1 = near_sub (near_sub (scaled_near 35468 _ b) (scaled_near 20091 _ d)) d in
    let d1 = near_add (near_add (scaled_near 20091 _ b) b) (scaled_near 35468 _ d) in
    line_in {m = m} (omega arith) (near_more (omega arith) (near_add a1 d1)) (near_more (omega arith) (near_add b1 c1)) (near_more (omega arith) (near_sub b1 c1)) (near_more (omega arith) (near_sub a1 d1))

-- ---- a grid
module _ {l h : ℤ} (z : In l h (pos 0)) where
  numbers_in_lem : (f : ℕ → ℤ) → ((i : ℕ) → In l h (f i)) → Each l h (four f)
  numbers_in_lem f p = each_∷ (p 0) (each_∷ (p 1) (each_∷ (p 2) (each_∷ (p 3) (record { at = λ i. z }))))

  lines_in : (f : ℕ → List ℤ) → ((i : ℕ) → Each l h (f i)) → Each2 l h (four f)
  lines_in f p = each2_∷ (p 0) (each2_∷ (p 1) (each2_∷ (p 2) (each2_∷ (p 3) (record { at = λ i j. z }))))

pub transpose_in : {l h : ℤ} {g : Grid} → In l h (pos 0) → Each2 l h g → Each2 l h (transpose_of g)
unfolding transpose_of
transpose_in {l} {h} {g} z e = lines_in z (grid_column g) (λ x. numbers_in_lem z (λ y. cell g y x) (λ y. e.at y x))

pub rows_in : (walsh : Bool) {n : ℕ} {bias : ℤ} {g : Grid} → In (pos 0) (pos 4) bias → Each2 (neg_ℤ (pos n)) (pos n) g
    → Each2 (neg_ℤ (pos (6 * n + 8))) (pos (6 * n + 8)) (rows_of walsh bias g)
unfolding rows_of
rows_in walsh {n} {bias} {g} i e =
    lines_in (near_zero (6 * n + 8)) (λ y. line_of walsh bias (get_or g y [])) (λ y. pass_in walsh i (e.at y 0) (e.at y 1) (e.at y 2) (e.at y 3))

pub bias_in : (walsh : Bool) → In (pos 0) (pos 4) (bias_of walsh)
bias_in true = numeral_in (pos 3) tt
bias_in false = numeral_in (pos 4) tt

-- numbers of 16 bits go no further than 200000 in the first pass, and those no further than 1200008 in the second
pub vertical_in : (walsh : Bool) {g : Grid} → Each2 (negsuc 32767) (pos 32767) g → Each2 (negsuc 199999) (pos 200000) (vertical_pass walsh g)
unfolding vertical_pass
vertical_in walsh e =
    each2_wider (transpose_in (near_zero 196616) (rows_in walsh (numeral_in (pos 0) tt) (transpose_in (near_zero 32768) (each2_wider e tt)))) tt

pub horizontal_in : (walsh : Bool) {g : Grid} → Each2 (negsuc 199999) (pos 200000) g → Each2 (negsuc 1200007) (pos 1200008) (horizontal_pass walsh g)
unfolding horizontal_pass
horizontal_in walsh e = rows_in walsh (bias_in walsh) e

-- small numbers go no further than 8000 in the first pass of the DCT, those no further than 32000 in the second, and a result is an eighth
dct_rows_in : {n m : ℕ} {bias : ℤ} {g : Grid} → 3 * n + 6 + 35468 * n / 65536 + 20091 * n / 65536 ≤ m → In (pos 0) (pos 4) bias
    → Each2 (neg_ℤ (pos n)) (pos n) g → Each2 (neg_ℤ (pos m)) (pos m) (rows_of false bias g)
unfolding rows_of
dct_rows_in {n} {m} {bias} {g} h i e =
    lines_in (near_zero m) (λ y. line_of false bias (get_or g y [])) (λ y. dct_in h i (e.at y 0) (e.at y 1) (e.at y 2) (e.at y 3))

pub small_vertical_in : {g : Grid} → Each2 (negsuc 2047) (pos 2047) g → Each2 (negsuc 7999) (pos 8000) (vertical_pass false g)
unfolding vertical_pass
small_vertical_in e = transpose_in (near_zero 8000) (dct_rows_in {n = 2048} {m = 8000} (lit≤ tt) (numeral_in (pos 0) tt) (transpose_in (near_zero 2048) (each2_wider e tt)))

pub small_horizontal_in : {g : Grid} → Each2 (negsuc 7999) (pos 8000) g → Each2 (negsuc 31999) (pos 32000) (horizontal_pass false g)
unfolding horizontal_pass
small_horizontal_in e = dct_rows_in {n = 8000} {m = 32000} (lit≤ tt) (bias_in false) e

pub small_result_in : {z : ℤ} → In (negsuc 31999) (pos 32000) z → In (negsuc 32512) (pos 32512) (result_of false z)
small_result_in i = In_wider (inside (know w64 (known (plainly i) ∷ []) (shr (v 0) 3) tt)) tt

-- a result is an eighth of what the passes leave, at most
pub result_in : (walsh : Bool) {z : ℤ} → In (negsuc 1200007) (pos 1200008) z → In (negsuc 150000) (pos 150001) (result_of walsh z)
result_in true i = In_wider (wrap_in _) tt
result_in false i = inside (know w64 (known (plainly i) ∷ []) (shr (v 0) 3) tt)
