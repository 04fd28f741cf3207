-- Division that rounds down, `shr_z`: what determines it, and the source's divisions, which add a multiple of the divisor first, so that
-- nothing negative is divided, and take it off again.
use Rattle.std.specs.Prelude.{◌≡◌, refl, ℕ, suc, ◌+◌, ◌*◌, ◌-◌, ◌<◌, ◌≤◌, ℤ, pos, negsuc, neg_ℤ, ◌+ℤ◌, ◌-ℤ◌, ◌*ℤ◌, ◌≤ℤ◌}
use Rattle.std.proofs.Common.{sym, ap, ◌∙◌, arith, mul-add, mul-suc, mul_comm, lit<}
use Rattle.std.proofs.Math.Nat.{lt_of_mul-lt-mul_left}
use Rattle.std.proofs.Math.IntN.{+ℤ-neg_ℤ_cancel}
use Rattle.std.specs.Int.Signed.{shr_z, quot_z}
use Rattle.numbers.specs.In.{In}
use Rattle.numbers.specs.Parts.{up, dn, to_le, of_le, of_eq, add_parts, up_neg, dn_neg, up_times, dn_times, shr_parts}

-- the quotient times m is at most z, and less than m below it
pub floor_in : (m : ℕ) (z : ℤ) → 0 < m → In (pos m *ℤ shr_z z m) (pos m *ℤ shr_z z m +ℤ pos (m - 1)) z
floor_in m z p =
    let q = shr_z z m in
    let s = shr_parts m z p in
    let u = up_times m q in
    let d = dn_times m q in
    record { low = of_le (omega arith); high = of_le (omega (arith, add_parts (pos m *ℤ q) (pos (m - 1)))) }

nearer : (m a b : ℕ) → m * a < m * b + m → a ≤ b
nearer m a b h = let k : a < suc b = lt_of_mul-lt-mul_left m (rw mul-suc h) in omega arith

-- and no other number is so
pub floor_is : (m : ℕ) {z q : ℤ} → 0 < m → In (pos m *ℤ q) (pos m *ℤ q +ℤ pos (m - 1)) z → shr_z z m ≡ q
floor_is m {z} {q} p i =
    let x = shr_z z m in
    let s = shr_parts m z p in
    let l = to_le i.low in
    let h = to_le i.high in
    let u = up_times m q in
    let d = dn_times m q in
    let e = add_parts (pos m *ℤ q) (pos (m - 1)) in
    let a : up x + dn q ≤ up q + dn x = nearer m (up x + dn q) (up q + dn x) (rw (mul-add m (up x) (dn q), mul-add m (up q) (dn x)) (omega arith)) in
    let b : up q + dn x ≤ up x + dn q = nearer m (up q + dn x) (up x + dn q) (rw (mul-add m (up q) (dn x), mul-add m (up x) (dn q)) (omega arith)) in
    of_eq (omega arith)

times_sum : (m a b c d e : ℕ) → a + b ≡ c + (d + e) → m * a + m * b ≡ m * c + (m * d + m * e)
times_sum m a b c d e h =
    sym (mul-add m a b) ∙ ap (λ (n : ℕ). m * n) h ∙ mul-add m c (d + e) ∙ ap (λ (n : ℕ). m * c + n) (mul-add m d e)

-- a multiple of m added before the division is a number added after it
pub floor_add : (m k : ℕ) (z : ℤ) → 0 < m → shr_z (z +ℤ pos (k * m)) m ≡ shr_z z m +ℤ pos k
floor_add m k z p =
    let x = shr_z z m in
    let y = x +ℤ pos k in
    let s = shr_parts m z p in
    let t : m * up y + m * dn x ≡ m * dn y + (m * up x + m * k) = times_sum m (up y) (dn x) (dn y) (up x) k (omega (arith, add_parts x (pos k))) in
    let u = up_times m y in
    let d = dn_times m y in
    let c = mul_comm k m in
    let a = add_parts z (pos (k * m)) in
    floor_is m {z = z +ℤ pos (k * m)} {q = y} p (record { low = of_le (omega arith); high = of_le (omega (arith, add_parts (pos m *ℤ y) (pos (m - 1)))) })

quot_floor : (m : ℕ) (z : ℤ) → pos 0 ≤ℤ z → quot_z z (pos m) ≡ shr_z z m
quot_floor m (pos a) h = refl
quot_floor m (negsuc a) h = absurd h.le

-- the source's form: where z plus k divisors is not negative, its division toward zero, less k, is the division that rounds down
pub floor_offset : (m k : ℕ) (z : ℤ) → 0 < m → neg_ℤ (pos (k * m)) ≤ℤ z → quot_z (z +ℤ pos (k * m)) (pos m) -ℤ pos k ≡ shr_z z m
floor_offset m k z p h =
    let n : pos 0 ≤ℤ (z +ℤ pos (k * m)) = of_le (omega (arith, to_le h, up_neg (pos (k * m)), dn_neg (pos (k * m)), add_parts z (pos (k * m)))) in
    ap (λ (x : ℤ). x -ℤ pos k) (quot_floor m (z +ℤ pos (k * m)) n ∙ floor_add m k z p) ∙ +ℤ-neg_ℤ_cancel (shr_z z m) (pos k)

-- vp8_transform's `floor16` and `floor8`
pub floor16_source : (v : ℤ) → negsuc 1099511627775 ≤ℤ v → quot_z (v +ℤ pos 1099511627776) (pos 65536) -ℤ pos 16777216 ≡ shr_z v 65536
floor16_source v h = floor_offset 65536 16777216 v (lit< tt) h

pub floor8_source : (v : ℤ) → negsuc 1073741823 ≤ℤ v → quot_z (v +ℤ pos 1073741824) (pos 8) -ℤ pos 134217728 ≡ shr_z v 8
floor8_source v h = floor_offset 8 134217728 v (lit< tt) h

-- vp8_filter_kernel's `divided` by 2, 8 and 128
pub divided2_source : (v : ℤ) → negsuc 1048575 ≤ℤ v → quot_z (v +ℤ pos 1048576) (pos 2) -ℤ quot_z (pos 1048576) (pos 2) ≡ shr_z v 2
divided2_source v h = floor_offset 2 524288 v (lit< tt) h

pub divided8_source : (v : ℤ) → negsuc 1048575 ≤ℤ v → quot_z (v +ℤ pos 1048576) (pos 8) -ℤ quot_z (pos 1048576) (pos 8) ≡ shr_z v 8
divided8_source v h = floor_offset 8 131072 v (lit< tt) h

pub divided128_source : (v : ℤ) → negsuc 1048575 ≤ℤ v → quot_z (v +ℤ pos 1048576) (pos 128) -ℤ quot_z (pos 1048576) (pos 128) ≡ shr_z v 128
divided128_source v h = floor_offset 128 8192 v (lit< tt) h
