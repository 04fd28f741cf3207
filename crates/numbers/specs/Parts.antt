-- An integer z as two naturals, z = up z − dn z, of which one is 0. The laws have no side conditions and are linear, so `omega`,
-- which reads ℕ alone, proves from them what is linear over ℤ.
use Rattle.std.specs.Prelude.{◌≡◌, refl, Bool, true, false, not, ℕ, zero, suc, ◌+◌, ◌*◌, ◌-◌, ◌/◌, ◌^◌, ◌<◌, ◌≤◌, T, ltb, ℤ, pos, negsuc, neg_ℤ, nat_abs, ◌+ℤ◌, ◌-ℤ◌, ◌*ℤ◌, ◌≤ℤ◌}
use Rattle.std.proofs.Common.{sym, ap, subst, ◌∙◌, arith, mul-zero, mul-suc, mod-lt, ltb→lt, leb→le, le→leb}
use Rattle.std.proofs.Math.Nat.{div-add-mod}
use Rattle.std.proofs.Math.IntN.{sub_ℕ}
use Rattle.std.specs.Int.Signed.{le_z, lt_z, le_z_yes, lt_z_no, shr_z}
use Rattle.std.specs.Int.{Width}
use mir.Val.{SFits, hbits}
use Rattle.numbers.specs.Tests.{never, true_of, of_true, cond_at, ltb-true, ltb-false}

abbrev pub up : ℤ → ℕ
up (pos k) = k
up (negsuc k) = 0

abbrev pub dn : ℤ → ℕ
dn (pos k) = 0
dn (negsuc k) = suc k

-- ---- order and equality
pub to_le : {a b : ℤ} → a ≤ℤ b → up a + dn b ≤ up b + dn a
to_le {a = pos a} {b = pos b} h = let k : a ≤ b = leb→le a b h.le in omega arith
to_le {a = pos a} {b = negsuc b} h = absurd h.le
to_le {a = negsuc a} {b = pos b} h = omega arith
to_le {a = negsuc a} {b = negsuc b} h = let k : b ≤ a = leb→le b a h.le in omega arith

of_le' : (a b : ℤ) → up a + dn b ≤ up b + dn a → T (le_z a b)
of_le' (pos a) (pos b) h = le→leb a b (omega arith)
of_le' (pos a) (negsuc b) h = let e : ⊥ = omega arith in absurd e
of_le' (negsuc a) (pos b) h = tt
of_le' (negsuc a) (negsuc b) h = le→leb b a (omega arith)

pub of_le : {a b : ℤ} → up a + dn b ≤ up b + dn a → a ≤ℤ b
of_le {a} {b} h = record { le = of_le' a b h }

pub of_eq : {a b : ℤ} → up a + dn b ≡ up b + dn a → a ≡ b
of_eq {a = pos a} {b = pos b} h = let e : a ≡ b = omega arith in ap pos e
of_eq {a = pos a} {b = negsuc b} h = let e : ⊥ = omega arith in absurd e
of_eq {a = negsuc a} {b = pos b} h = let e : ⊥ = omega arith in absurd e
of_eq {a = negsuc a} {b = negsuc b} h = let e : a ≡ b = omega arith in ap negsuc e

-- what a test says, passed and failed
pub lt_parts : (a b : ℤ) → lt_z a b ≡ true → up a + dn b < up b + dn a
lt_parts (pos a) (pos b) e = omega (arith, ltb-true a b e)
lt_parts (pos a) (negsuc b) e = absurd (never e refl)
lt_parts (negsuc a) (pos b) e = omega arith
lt_parts (negsuc a) (negsuc b) e = omega (arith, ltb-true b a e)

pub nlt_le : (a b : ℤ) → lt_z a b ≡ false → b ≤ℤ a
nlt_le a b e = lt_z_no (subst (λ (x : Bool). T (not x)) (sym e) tt)

pub le_true : {a b : ℤ} → a ≤ℤ b → le_z a b ≡ true
le_true {a} {b} h = true_of (le_z a b) h.le

pub true_le : (a b : ℤ) → le_z a b ≡ true → a ≤ℤ b
true_le a b e = le_z_yes (of_true (le_z a b) e)

pub ≤ℤ-trans : {a b c : ℤ} → a ≤ℤ b → b ≤ℤ c → a ≤ℤ c
≤ℤ-trans {a} {b} {c} h k = of_le (omega (arith, to_le h, to_le k))

-- ---- what w bits hold
pub lt_up : (h : ℤ) (m : ℕ) → T (lt_z h (pos m)) → up h < m + dn h
lt_up (pos a) m t = let k : a < m = ltb→lt a m t in omega arith
lt_up (negsuc a) m t = omega arith

pub of_fits : (w : Width) (z : ℤ) → up z < 2 ^ hbits w + dn z → dn z ≤ 2 ^ hbits w + up z → SFits w z
of_fits w (pos a) h k = record { sfits = omega arith }
of_fits w (negsuc a) h k = record { sfits = omega arith }

pub fits_parts : (w : Width) (z : ℤ) → SFits w z → (up z < 2 ^ hbits w) × (dn z ≤ 2 ^ hbits w)
fits_parts w (pos a) f = (f.sfits, omega arith)
fits_parts w (negsuc a) f = (omega (arith, f.sfits), f.sfits)

-- ---- the operations
sub_parts : (a b : ℕ) → up (sub_ℕ a b) + b ≡ dn (sub_ℕ a b) + a
sub_parts a b =
    cond_at (ltb a b) (λ (z : ℤ). up z + b ≡ dn z + a) (λ e. less (ltb-true a b e)) (λ e. more (ltb-false a b e))
  where
    less : a < b → 0 + b ≡ suc (b - suc a) + a
    less h = omega arith

    more : b ≤ a → (a - b) + b ≡ 0 + a
    more h = omega arith

pub add_parts : (a b : ℤ) → up (a +ℤ b) + (dn a + dn b) ≡ dn (a +ℤ b) + (up a + up b)
add_parts (pos a) (pos b) = omega arith
add_parts (pos a) (negsuc b) = omega (arith, sub_parts a (suc b))
add_parts (negsuc a) (pos b) = omega (arith, sub_parts b (suc a))
add_parts (negsuc a) (negsuc b) = omega arith

pub up_neg : (a : ℤ) → up (neg_ℤ a) ≡ dn a
up_neg (pos zero) = refl
up_neg (pos (suc a)) = refl
up_neg (negsuc a) = refl

pub dn_neg : (a : ℤ) → dn (neg_ℤ a) ≡ up a
dn_neg (pos zero) = refl
dn_neg (pos (suc a)) = refl
dn_neg (negsuc a) = refl

pub low_of : (m : ℕ) (l : ℤ) → T (le_z (neg_ℤ (pos m)) l) → dn l ≤ m + up l
low_of m l t =
    let h : neg_ℤ (pos m) ≤ℤ l = le_z_yes t in
    omega (arith, to_le h, up_neg (pos m), dn_neg (pos m))

pub sub_parts_ℤ : (a b : ℤ) → up (a -ℤ b) + (dn a + up b) ≡ dn (a -ℤ b) + (up a + dn b)
sub_parts_ℤ a b = omega (arith, add_parts a (neg_ℤ b), up_neg b, dn_neg b)

-- a multiple by a numeral
pub up_times : (k : ℕ) (a : ℤ) → up (pos k *ℤ a) ≡ k * up a
up_times k (pos a) = refl
up_times k (negsuc a) = up_neg (pos (k * suc a)) ∙ sym (mul-zero k)

pub dn_times : (k : ℕ) (a : ℤ) → dn (pos k *ℤ a) ≡ k * dn a
dn_times k (pos a) = sym (mul-zero k)
dn_times k (negsuc a) = dn_neg (pos (k * suc a))

-- not more than one of the two
pub nat_abs_parts : (a : ℤ) → nat_abs a ≡ up a + dn a
nat_abs_parts (pos a) = omega arith
nat_abs_parts (negsuc a) = omega arith

pub nat_abs_neg : (k : ℕ) → nat_abs (neg_ℤ (pos k)) ≡ k
nat_abs_neg zero = refl
nat_abs_neg (suc k) = refl

pub nat_abs_times : (a b : ℤ) → nat_abs (a *ℤ b) ≡ nat_abs a * nat_abs b
nat_abs_times (pos a) (pos b) = refl
nat_abs_times (pos a) (negsuc b) = nat_abs_neg (a * suc b)
nat_abs_times (negsuc a) (pos b) = nat_abs_neg (suc a * b)
nat_abs_times (negsuc a) (negsuc b) = refl

-- a division by m that rounds down: m q ≤ z < m q + m
pub shr_parts : (m : ℕ) (z : ℤ) → 0 < m → (m * up (shr_z z m) + dn z ≤ up z + m * dn (shr_z z m)) × (up z + m * dn (shr_z z m) < m * up (shr_z z m) + dn z + m)
shr_parts m (pos a) p = (omega (arith, mul-zero m, div-add-mod a m), omega (arith, mul-zero m, div-add-mod a m, mod-lt a p))
shr_parts m (negsuc a) p =
    (omega (arith, mul-zero m, mul-suc m (a / m), div-add-mod a m, mod-lt a p), omega (arith, mul-zero m, mul-suc m (a / m), div-add-mod a m))
