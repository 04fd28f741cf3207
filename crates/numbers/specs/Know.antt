-- What is known of a signed number t that the machine reads back from bits: it is z, and z lies between two numerals; and what is then
-- known of the result of each operation.
use Rattle.std.specs.Prelude.{◌≡◌, refl, Bool, ◌&&◌, ℕ, ◌*◌, ◌-◌, ◌^◌, T, ltb, ℤ, pos, neg_ℤ, ◌+ℤ◌, ◌-ℤ◌, ◌*ℤ◌, ◌≤ℤ◌}
use Rattle.std.proofs.Common.{sym, ap, ap₂, subst, ◌∙◌, arith, lit<, pow_pos}
use Rattle.std.specs.Int.Signed.{le_z, lt_z, le_z_yes, shr_z, quot_z, rem_z, ≤ℤ_refl}
use Rattle.std.specs.Int.{Width}
use mir.Val.{SFits, hbits, to_z, of_z}
use Rattle.std.proofs.lemmas.Int.{to_z-of_z}
use Rattle.numbers.specs.Tests.{and_l, and_r}
use Rattle.numbers.specs.In.{In}
use Rattle.numbers.specs.Parts.{to_le, ≤ℤ-trans, of_fits, lt_up, low_of}
use Rattle.numbers.specs.Order.{add_mono, sub_mono, times_mono, shr_mono, quot_mono, rem_low, rem_high, wide, sym_low, sym_high, mul_wide, In_wider}

-- ---- what w bits hold
abbrev pub within : Width → ℤ → ℤ → Bool
within w l h = le_z (neg_ℤ (pos (2 ^ hbits w))) l && lt_z h (pos (2 ^ hbits w))

within_fits : (w : Width) (l h z : ℤ) → l ≤ℤ z → z ≤ℤ h → T (within w l h) → SFits w z
within_fits w l h z p q t =
    let n : ℕ = 2 ^ hbits w in
    let a = low_of n l (and_l (le_z (neg_ℤ (pos n)) l) (lt_z h (pos n)) t) in
    let b = lt_up h n (and_r (le_z (neg_ℤ (pos n)) l) (lt_z h (pos n)) t) in
    of_fits w z (omega (arith, to_le p, to_le q)) (omega (arith, to_le p, to_le q))

-- ---- what is known of a number that is read back from bits
pub record Know (t z l h : ℤ) : Type 0 where
  pub eq : t ≡ z
  pub low : l ≤ℤ z
  pub high : z ≤ℤ h

-- a numeral
pub num : (z : ℤ) → Know z z z z
num z = record { eq = refl; low = ≤ℤ_refl z; high = ≤ℤ_refl z }

-- a number of the logic, with no machine
pub plainly : {l h z : ℤ} → In l h z → Know z z l h
plainly i = record { eq = refl; low = i.low; high = i.high }

-- the machine's rounding of a result to w bits and back: it is the result, where it fits
abbrev pub round : Width → ℤ → ℤ
round w t = to_z w (of_z w t)

pub fit : {w : Width} {t z l h : ℤ} → Know t z l h → T (within w l h) → SFits w t
fit {w} {t} {z} {l} {h} k b = subst (SFits w) (sym k.eq) (within_fits w l h z k.low k.high b)

pub rounded : (w : Width) {t z l h : ℤ} → Know t z l h → T (within w l h) → Know (round w t) z l h
rounded w {t} k b = record { eq = to_z-of_z w t (fit k b) ∙ k.eq; low = k.low; high = k.high }

-- the operations, before the rounding
pub know_add : {t z l h t' z' l' h' : ℤ} → Know t z l h → Know t' z' l' h' → Know (t +ℤ t') (z +ℤ z') (l +ℤ l') (h +ℤ h')
know_add a b = record { eq = ap₂ ◌+ℤ◌ a.eq b.eq; low = add_mono a.low b.low; high = add_mono a.high b.high }

pub know_sub : {t z l h t' z' l' h' : ℤ} → Know t z l h → Know t' z' l' h' → Know (t -ℤ t') (z -ℤ z') (l -ℤ h') (h -ℤ l')
know_sub a b = record { eq = ap₂ ◌-ℤ◌ a.eq b.eq; low = sub_mono a.low b.high; high = sub_mono a.high b.low }

pub know_mul : {t z l h t' z' l' h' : ℤ} → Know t z l h → Know t' z' l' h' → Know (t *ℤ t') (z *ℤ z') (neg_ℤ (pos (wide l h * wide l' h'))) (pos (wide l h * wide l' h'))
know_mul {t} {z} {l} {h} {t'} {z'} {l'} {h'} a b =
    let m = mul_wide l h l' h' z z' a.low a.high b.low b.high in
    record { eq = ap₂ ◌*ℤ◌ a.eq b.eq; low = sym_low (z *ℤ z') m; high = sym_high (z *ℤ z') m }

pub know_times : (k : ℕ) {t z l h : ℤ} → Know t z l h → Know (pos k *ℤ t) (pos k *ℤ z) (pos k *ℤ l) (pos k *ℤ h)
know_times k a = record { eq = ap (λ (x : ℤ). pos k *ℤ x) a.eq; low = times_mono k a.low; high = times_mono k a.high }

pub know_shr : (k : ℕ) {t z l h : ℤ} → Know t z l h → Know (shr_z t (2 ^ k)) (shr_z z (2 ^ k)) (shr_z l (2 ^ k)) (shr_z h (2 ^ k))
know_shr k a = record { eq = ap (λ (x : ℤ). shr_z x (2 ^ k)) a.eq; low = shr_mono (2 ^ k) (pow_pos k) a.low; high = shr_mono (2 ^ k) (pow_pos k) a.high }

pub know_quot : (m : ℕ) {t z l h : ℤ} → T (ltb 0 m) → Know t z l h → Know (quot_z t (pos m)) (quot_z z (pos m)) (quot_z l (pos m)) (quot_z h (pos m))
know_quot m {t} {z} {l} {h} p a = record { eq = ap (λ (x : ℤ). quot_z x (pos m)) a.eq; low = quot_mono m l z (lit< p) a.low; high = quot_mono m z h (lit< p) a.high }

pub know_rem : (m : ℕ) {t z l h : ℤ} → T (ltb 0 m) → T (le_z (pos 0) l) → Know t z l h → Know (rem_z t (pos m)) (rem_z z (pos m)) (pos 0) (pos (m - 1))
know_rem m {t} {z} {l} {h} p q a =
    let n : pos 0 ≤ℤ z = ≤ℤ-trans (le_z_yes q) a.low in
    record { eq = ap (λ (x : ℤ). rem_z x (pos m)) a.eq; low = rem_low m z n; high = rem_high m z (lit< p) n }

-- the number and what is read back lie within the bounds
pub inside : {t z l h : ℤ} → Know t z l h → In l h z
inside k = record { low = k.low; high = k.high }

pub inside_read : {t z l h : ℤ} → Know t z l h → In l h t
inside_read {t} {z} {l} {h} k = subst (In l h) (sym k.eq) (inside k)

-- with wider bounds
pub wider : {t z l h l' h' : ℤ} → Know t z l h → T (le_z l' l && le_z h h') → Know t z l' h'
wider k b = let i = In_wider (inside k) b in record { eq = k.eq; low = i.low; high = i.high }
