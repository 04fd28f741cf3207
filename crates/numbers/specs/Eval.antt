-- The code's expressions over numbers of which something is known, checked as a whole: `chk` computes the bounds of an expression and
-- whether each result on the way to it fits w bits. Then `fits` answers what the machine asks of an operation, `is` says what the
-- result is, and `know` gives it with its bounds; `tt` is the whole arithmetic. For `p as i32 + d` with a byte p and a bounded d:
--   ρ c = known (there w32 (unsigned c.fits.p) tt) ∷ known (there w32 c.pre tt) ∷ []
--   add-result c = fits w32 (ρ c) (v 0 ⊕ v 1) tt
--   returns c = is w32 (ρ c) (v 0 ⊕ v 1) tt
use Rattle.std.specs.Prelude.{◌≡◌, Bool, true, ◌&&◌, List, ℕ, ◌*◌, ◌-◌, ◌^◌, ◌<◌, T, ltb, ℤ, pos, neg_ℤ, ◌+ℤ◌, ◌-ℤ◌, ◌*ℤ◌, get_or}
use Rattle.std.proofs.Common.{lit<, SFits}
use Rattle.std.specs.Int.Signed.{le_z, shr_z, quot_z, rem_z}
use Rattle.std.specs.Int.{Width}
use Rattle.numbers.specs.Tests.{three}
use Rattle.numbers.specs.Order.{wide}
use Rattle.numbers.specs.Know.{Know, num, within, round, fit, rounded, know_add, know_sub, know_mul, know_times, know_shr, know_quot, know_rem}

-- a number that the code has at hand: as the machine reads it, as it is, and its bounds
pub record Var : Type 0 where
  pub t : ℤ
  pub z : ℤ
  pub l : ℤ
  pub h : ℤ
  pub is : Know t z l h

-- v i is the ith number at hand; k ⊙ a is a product with a numeral in front, and shr a k is a >> k
infixl 6 ◌⊕◌ ◌⊖◌
infixl 7 ◌⊗◌ ◌⊙◌
pub data E : Type 0 where
  v : ℕ → E
  lit : ℤ → E
  ◌⊕◌ : E → E → E
  ◌⊖◌ : E → E → E
  ◌⊗◌ : E → E → E
  ◌⊙◌ : ℕ → E → E
  shr : E → ℕ → E
  quot : E → ℕ → E
  rem : E → ℕ → E

-- past the numbers at hand
abbrev pub none : Var
none = record { t = pos 0; z = pos 0; l = pos 0; h = pos 0; is = num (pos 0) }

-- the bounds of an expression, and whether each result on the way to it fits
pub record Chk : Type 0 where
  pub good : Bool
  pub l : ℤ
  pub h : ℤ

-- a result with bounds l and h, of operands that are good
abbrev into : Width → Bool → Bool → ℤ → ℤ → Chk
into w a b l h = record { good = a && (b && within w l h); l = l; h = h }

abbrev pub chk_add : Width → Chk → Chk → Chk
chk_add w a b = into w a.good b.good (a.l +ℤ b.l) (a.h +ℤ b.h)

abbrev pub chk_sub : Width → Chk → Chk → Chk
chk_sub w a b = into w a.good b.good (a.l -ℤ b.h) (a.h -ℤ b.l)

abbrev pub chk_mul : Width → Chk → Chk → Chk
chk_mul w a b = let m = wide a.l a.h * wide b.l b.h in into w a.good b.good (neg_ℤ (pos m)) (pos m)

abbrev pub chk_times : Width → ℕ → Chk → Chk
chk_times w k a = into w a.good true (pos k *ℤ a.l) (pos k *ℤ a.h)

abbrev pub chk_shr : Width → ℕ → Chk → Chk
chk_shr w k a = into w a.good true (shr_z a.l (2 ^ k)) (shr_z a.h (2 ^ k))

abbrev pub chk_quot : Width → ℕ → Chk → Chk
chk_quot w m a = into w a.good (ltb 0 m) (quot_z a.l (pos m)) (quot_z a.h (pos m))

-- the machine asks of a remainder that the quotient fits; and what is divided may not be negative, so that 0..m - 1 bounds the remainder
abbrev pub chk_rem : Width → ℕ → Chk → Chk
chk_rem w m a = into w (chk_quot w m a).good (le_z (pos 0) a.l) (pos 0) (pos (m - 1))

module _ (w : Width) (ρ : List Var) where
  -- the number, as the machine reads it back
  abbrev pub mach : E → ℤ
  mach (v i) = (get_or ρ i none).t
  mach (lit k) = k
  mach (a ⊕ b) = round w (mach a +ℤ mach b)
  mach (a ⊖ b) = round w (mach a -ℤ mach b)
  mach (a ⊗ b) = round w (mach a *ℤ mach b)
  mach (k ⊙ a) = round w (pos k *ℤ mach a)
  mach (shr a k) = round w (shr_z (mach a) (2 ^ k))
  mach (quot a m) = round w (quot_z (mach a) (pos m))
  mach (rem a m) = round w (rem_z (mach a) (pos m))

  -- the number itself
  abbrev pub val : E → ℤ
  val (v i) = (get_or ρ i none).z
  val (lit k) = k
  val (a ⊕ b) = val a +ℤ val b
  val (a ⊖ b) = val a -ℤ val b
  val (a ⊗ b) = val a *ℤ val b
  val (k ⊙ a) = pos k *ℤ val a
  val (shr a k) = shr_z (val a) (2 ^ k)
  val (quot a m) = quot_z (val a) (pos m)
  val (rem a m) = rem_z (val a) (pos m)

  -- the bounds, and whether each result on the way fits
  abbrev pub chk : E → Chk
  chk (v i) = record { good = true; l = (get_or ρ i none).l; h = (get_or ρ i none).h }
  chk (lit k) = record { good = true; l = k; h = k }
  chk (a ⊕ b) = chk_add w (chk a) (chk b)
  chk (a ⊖ b) = chk_sub w (chk a) (chk b)
  chk (a ⊗ b) = chk_mul w (chk a) (chk b)
  chk (k ⊙ a) = chk_times w k (chk a)
  chk (shr a k) = chk_shr w k (chk a)
  chk (quot a m) = chk_quot w m (chk a)
  chk (rem a m) = chk_rem w m (chk a)

  -- an operation of two good operands, of one
  two : (a b : E) (l h : ℤ) → T (into w (chk a).good (chk b).good l h).good → T (chk a).good × T (chk b).good × T (within w l h)
  two a b l h g = three (chk a).good (chk b).good (within w l h) g

  one : (a : E) (l h : ℤ) → T (into w (chk a).good true l h).good → T (chk a).good × Unit {0} × T (within w l h)
  one a l h g = three (chk a).good true (within w l h) g

  by : (a : E) (m : ℕ) → T (chk (quot a m)).good → T (chk a).good × T (ltb 0 m) × T (within w (chk (quot a m)).l (chk (quot a m)).h)
  by a m g = three (chk a).good (ltb 0 m) (within w (chk (quot a m)).l (chk (quot a m)).h) g

  left : (a : E) (m : ℕ) → T (chk (rem a m)).good → T (chk (quot a m)).good × T (le_z (pos 0) (chk a).l) × T (within w (pos 0) (pos (m - 1)))
  left a m g = three (chk (quot a m)).good (le_z (pos 0) (chk a).l) (within w (pos 0) (pos (m - 1))) g

  -- what a good expression is
  pub know : (e : E) → T (chk e).good → Know (mach e) (val e) (chk e).l (chk e).h
  know (v i) g = (get_or ρ i none).is
  know (lit k) g = num k
  know (a ⊕ b) g = let p = two a b (chk (a ⊕ b)).l (chk (a ⊕ b)).h g in rounded w (know_add (know a p.0) (know b p.1)) p.2
  know (a ⊖ b) g = let p = two a b (chk (a ⊖ b)).l (chk (a ⊖ b)).h g in rounded w (know_sub (know a p.0) (know b p.1)) p.2
  know (a ⊗ b) g = let p = two a b (chk (a ⊗ b)).l (chk (a ⊗ b)).h g in rounded w (know_mul (know a p.0) (know b p.1)) p.2
  know (k ⊙ a) g = let p = one a (chk (k ⊙ a)).l (chk (k ⊙ a)).h g in rounded w (know_times k (know a p.0)) p.2
  know (shr a k) g = let p = one a (chk (shr a k)).l (chk (shr a k)).h g in rounded w (know_shr k (know a p.0)) p.2
  know (quot a m) g = let p = by a m g in rounded w (know_quot m p.1 (know a p.0)) p.2
  know (rem a m) g = let q = left a m g in let p = by a m q.0 in rounded w (know_rem m p.1 q.1 (know a p.0)) q.2

  -- what the machine asks of an operation: its result fits
  abbrev pub Asked : E → Type 0
  Asked (v i) = Unit {0}
  Asked (lit k) = Unit {0}
  Asked (a ⊕ b) = SFits w (mach a +ℤ mach b)
  Asked (a ⊖ b) = SFits w (mach a -ℤ mach b)
  Asked (a ⊗ b) = SFits w (mach a *ℤ mach b)
  Asked (k ⊙ a) = SFits w (pos k *ℤ mach a)
  Asked (shr a k) = Unit {0}
  Asked (quot a m) = (0 < m) × SFits w (quot_z (mach a) (pos m))
  Asked (rem a m) = (0 < m) × SFits w (quot_z (mach a) (pos m))

  pub fits : (e : E) → T (chk e).good → Asked e
  fits (v i) g = tt
  fits (lit k) g = tt
  fits (a ⊕ b) g = let p = two a b (chk (a ⊕ b)).l (chk (a ⊕ b)).h g in fit (know_add (know a p.0) (know b p.1)) p.2
  fits (a ⊖ b) g = let p = two a b (chk (a ⊖ b)).l (chk (a ⊖ b)).h g in fit (know_sub (know a p.0) (know b p.1)) p.2
  fits (a ⊗ b) g = let p = two a b (chk (a ⊗ b)).l (chk (a ⊗ b)).h g in fit (know_mul (know a p.0) (know b p.1)) p.2
  fits (k ⊙ a) g = let p = one a (chk (k ⊙ a)).l (chk (k ⊙ a)).h g in fit (know_times k (know a p.0)) p.2
  fits (shr a k) g = tt
  fits (quot a m) g = let p = by a m g in (lit< p.1, fit (know_quot m p.1 (know a p.0)) p.2)
  fits (rem a m) g = let p = by a m (left a m g).0 in (lit< p.1, fit (know_quot m p.1 (know a p.0)) p.2)

  -- what the result is
  pub is : (e : E) → T (chk e).good → mach e ≡ val e
  is e g = (know e g).eq
