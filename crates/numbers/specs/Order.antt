-- How the ends of an interval move: each operation of the machine keeps an order, or has a bound, so the ends of its result follow
-- from the ends of its operands.
use Rattle.std.specs.Prelude.{◌&&◌, ℕ, suc, ◌*◌, ◌-◌, ◌/◌, ◌<◌, ◌≤◌, max, T, ℤ, pos, negsuc, neg_ℤ, nat_abs, ◌+ℤ◌, ◌-ℤ◌, ◌*ℤ◌, ◌≤ℤ◌}
use Rattle.std.proofs.Common.{arith, le_trans, div-mul-le_self, le-div_iff_mul-le, mul-le-mul, mul-le-mul_left, mul-add, mod-lt, leb→le, le→leb}
use Rattle.std.specs.Int.Signed.{le_z, le_z_yes, shr_z, quot_z, rem_z}
use Rattle.numbers.specs.Tests.{and_l, and_r}
use Rattle.numbers.specs.In.{In}
use Rattle.numbers.specs.Parts.{up, dn, to_le, of_le, ≤ℤ-trans, add_parts, sub_parts_ℤ, up_neg, dn_neg, up_times, dn_times, nat_abs_parts, nat_abs_times}

pub add_mono : {a b a' b' : ℤ} → a ≤ℤ b → a' ≤ℤ b' → (a +ℤ a') ≤ℤ (b +ℤ b')
add_mono {a} {b} {a'} {b'} h k = of_le (omega (arith, to_le h, to_le k, add_parts a a', add_parts b b'))

pub sub_mono : {a b a' b' : ℤ} → a ≤ℤ b → a' ≤ℤ b' → (a -ℤ b') ≤ℤ (b -ℤ a')
sub_mono {a} {b} {a'} {b'} h k = of_le (omega (arith, to_le h, to_le k, sub_parts_ℤ a b', sub_parts_ℤ b a'))

pub times_mono : (k : ℕ) {a b : ℤ} → a ≤ℤ b → (pos k *ℤ a) ≤ℤ (pos k *ℤ b)
times_mono k {a} {b} h = of_le (omega (arith, up_times k a, dn_times k a, up_times k b, dn_times k b, mul-add k (up a) (dn b), mul-add k (up b) (dn a), mul-le-mul_left k (to_le h)))

div_mono : (m : ℕ) {a b : ℕ} → 0 < m → a ≤ b → a / m ≤ b / m
div_mono m {a} {b} p h = (le-div_iff_mul-le p).1 (le_trans (div-mul-le_self a m) h)

shr_mono' : (m : ℕ) (a b : ℤ) → 0 < m → T (le_z a b) → T (le_z (shr_z a m) (shr_z b m))
shr_mono' m (pos a) (pos b) p h = le→leb (a / m) (b / m) (div_mono m p (leb→le a b h))
shr_mono' m (pos a) (negsuc b) p h = h
shr_mono' m (negsuc a) (pos b) p h = tt
shr_mono' m (negsuc a) (negsuc b) p h = le→leb (b / m) (a / m) (div_mono m p (leb→le b a h))

pub shr_mono : (m : ℕ) {a b : ℤ} → 0 < m → a ≤ℤ b → shr_z a m ≤ℤ shr_z b m
shr_mono m {a} {b} p h = record { le = shr_mono' m a b p h.le }

-- a quotient toward zero, by a numeral
pub quot_mono : (m : ℕ) (a b : ℤ) → 0 < m → a ≤ℤ b → quot_z a (pos m) ≤ℤ quot_z b (pos m)
quot_mono m (pos a) (pos b) p h = of_le (omega (arith, div_mono m p (leb→le a b h.le)))
quot_mono m (pos a) (negsuc b) p h = absurd h.le
quot_mono m (negsuc a) (pos b) p h = of_le (omega (arith, up_neg (pos (suc a / m)), dn_neg (pos (suc a / m))))
quot_mono m (negsuc a) (negsuc b) p h =
    let k : suc b ≤ suc a = omega (arith, leb→le b a h.le) in
    of_le (omega (arith, div_mono m p k, up_neg (pos (suc a / m)), dn_neg (pos (suc a / m)), up_neg (pos (suc b / m)), dn_neg (pos (suc b / m))))

-- the remainder of a number that is not negative
pub rem_low : (m : ℕ) (a : ℤ) → pos 0 ≤ℤ a → pos 0 ≤ℤ rem_z a (pos m)
rem_low m (pos a) h = of_le (omega arith)
rem_low m (negsuc a) h = absurd h.le

pub rem_high : (m : ℕ) (a : ℤ) → 0 < m → pos 0 ≤ℤ a → rem_z a (pos m) ≤ℤ pos (m - 1)
rem_high m (pos a) p h = of_le (omega (arith, mod-lt a p))
rem_high m (negsuc a) p h = absurd h.le

-- the larger magnitude of the two ends bounds the magnitude of what lies between
abbrev pub wide : ℤ → ℤ → ℕ
wide l h = max (nat_abs l) (nat_abs h)

wide_is : (l h z : ℤ) → l ≤ℤ z → z ≤ℤ h → nat_abs z ≤ wide l h
wide_is l h (pos a) p q = omega (arith, to_le q, nat_abs_parts h)
wide_is l h (negsuc a) p q = omega (arith, to_le p, nat_abs_parts l)

pub sym_low : (z : ℤ) {m : ℕ} → nat_abs z ≤ m → neg_ℤ (pos m) ≤ℤ z
sym_low z {m} h = of_le (omega (arith, nat_abs_parts z, up_neg (pos m), dn_neg (pos m)))

pub sym_high : (z : ℤ) {m : ℕ} → nat_abs z ≤ m → z ≤ℤ pos m
sym_high z {m} h = of_le (omega (arith, nat_abs_parts z))

pub mul_wide : (l h l' h' z z' : ℤ) → l ≤ℤ z → z ≤ℤ h → l' ≤ℤ z' → z' ≤ℤ h' → nat_abs (z *ℤ z') ≤ wide l h * wide l' h'
mul_wide l h l' h' z z' p q p' q' = rw nat_abs_times (mul-le-mul (wide_is l h z p q) (wide_is l' h' z' p' q'))

-- wider bounds
pub In_wider : {l h l' h' z : ℤ} → In l h z → T (le_z l' l && le_z h h') → In l' h' z
In_wider {l} {h} {l'} {h'} k b =
    record { low = ≤ℤ-trans (le_z_yes (and_l (le_z l' l) (le_z h h') b)) k.low; high = ≤ℤ-trans k.high (le_z_yes (and_r (le_z l' l) (le_z h h') b)) }
