-- What a signed comparison of two known numbers says of them, whichever way it went, and the narrower bounds that it gives.
use Rattle.std.specs.Prelude.{◌≡◌, Bool, true, false, ◌&&◌, ℤ, pos, ◌-ℤ◌}
use Rattle.std.proofs.Common.{sym, ap₂, subst, ◌∙◌, arith}
use Rattle.std.specs.Int.Signed.{le_z, lt_z}
use Rattle.numbers.specs.Tests.{both_left, both_right}
use Rattle.numbers.specs.Parts.{to_le, of_le, ≤ℤ-trans, lt_parts, nlt_le, true_le, sub_parts_ℤ}
use Rattle.numbers.specs.Know.{Know, num}

-- ---- what it says of the numbers
module _ {t z l h t' z' l' h' : ℤ} {b : Bool} (k : Know t z l h) (k' : Know t' z' l' h') where
  pub lt_is : lt_z t t' ≡ b → lt_z z z' ≡ b
  lt_is e = sym (ap₂ lt_z k.eq k'.eq) ∙ e

  pub le_is : le_z t t' ≡ b → le_z z z' ≡ b
  le_is e = sym (ap₂ le_z k.eq k'.eq) ∙ e

-- ---- what it says of the bounds
module _ {t z l h t' z' l' h' : ℤ} (k : Know t z l h) (k' : Know t' z' l' h') where
  -- t < t' held: t is below the highest t', and t' above the lowest t
  pub lt_left : lt_z t t' ≡ true → Know t z l (h' -ℤ pos 1)
  lt_left e = record { eq = k.eq; low = k.low; high = of_le (omega (arith, lt_parts z z' (lt_is k k' e), to_le k'.high, sub_parts_ℤ h' (pos 1))) }

  -- t < t' failed
  pub ge_left : lt_z t t' ≡ false → Know t z l' h
  ge_left e = record { eq = k.eq; low = ≤ℤ-trans k'.low (nlt_le z z' (lt_is k k' e)); high = k.high }

  pub ge_right : lt_z t t' ≡ false → Know t' z' l' h
  ge_right e = record { eq = k'.eq; low = k'.low; high = ≤ℤ-trans (nlt_le z z' (lt_is k k' e)) k.high }

  -- t ≤ t' held, and failed
  pub le_left : le_z t t' ≡ true → Know t z l h'
  le_left e = record { eq = k.eq; low = k.low; high = ≤ℤ-trans (true_le z z' (le_is k k' e)) k'.high }

  pub le_right : le_z t t' ≡ true → Know t' z' l h'
  le_right e = record { eq = k'.eq; low = ≤ℤ-trans k.low (true_le z z' (le_is k k' e)); high = k'.high }

-- ---- a test that a number lies in a range, both ends in
module _ {t z l h : ℤ} (lo hi : ℤ) (k : Know t z l h) where
  pub between : le_z lo t && le_z t hi ≡ true → Know t z lo hi
  between e = le_left (le_right (num lo) k (both_left (le_z lo t) (le_z t hi) e)) (num hi) (both_right (le_z lo t) (le_z t hi) e)

  pub between_is : {b : Bool} → le_z lo t && le_z t hi ≡ b → le_z lo z && le_z z hi ≡ b
  between_is {b} e = subst (λ (x : ℤ). le_z lo x && le_z x hi ≡ b) k.eq e
