-- Tests: a comparison decided, and what a computed conjunction says.
use Rattle.std.specs.Prelude.{ℕ, ◌≤◌, ◌<◌, ◌≡◌, refl, Bool, true, false, cond, ◌&&◌, ◌⊎◌, T}
use Rattle.std.proofs.Common.{inl, inr, ⊎_elim, arith}
use Rattle.std.proofs.Math.Decide.{dec_lt, ℕ_discrete}
pub use Rattle.std.proofs.Common.{ltb-true, ltb-false, lt-ltb, le-ltb, leb-true, leb-false, le-leb, eqb-true, eq-eqb, ne_eqb}
pub use Rattle.std.proofs.lemmas.Bool.{lt-leb, eqb-false, not-true, not-false}

pub lt_or : (a b : ℕ) → (a < b) ⊎ (b ≤ a)
lt_or a b = elim (dec_lt a b) [ yes h ↦ inl h | no h ↦ inr (omega arith) ]

pub eq_or : (a b : ℕ) → (a ≡ b) ⊎ (a ≡ b → ⊥)
eq_or a b = elim (ℕ_discrete a b) [ yes h ↦ inl h | no h ↦ inr h ]

-- a tag that is 1 or 2 is not 0
pub not_first : {n : ℕ} → (n ≡ 1) ⊎ (n ≡ 2) → n ≡ 0 → ⊥
not_first e z = ⊎_elim (λ h. omega arith) (λ h. omega arith) e

-- a test is not both
pub never : {b : Bool} → b ≡ true → b ≡ false → ⊥
never e f = let z : ◌≡◌ {A = ℕ} 0 1 = cc in omega arith

-- a test that cannot be true is false
pub not_so : (b : Bool) → (b ≡ true → ⊥) → false ≡ b
not_so true f = absurd (f refl)
not_so false f = refl

pub both_left : (a b : Bool) → a && b ≡ true → a ≡ true
both_left true b e = refl
both_left false b e = e

pub both_right : (a b : Bool) → a && b ≡ true → b ≡ true
both_right true b e = e
both_right false b e = absurd (never e refl)

pub both_true : {a b : Bool} → a ≡ true → b ≡ true → a && b ≡ true
both_true e f = rw (e, f)

pub both_false : (a : Bool) {b : Bool} → b ≡ false → a && b ≡ false
both_false true e = e
both_false false e = refl

-- the same of a test that is a type, which `tt` answers where it computes
pub and_l : (a b : Bool) → T (a && b) → T a
and_l true b t = tt
and_l false b t = t

pub and_r : (a b : Bool) → T (a && b) → T b
and_r true b t = t
and_r false b t = absurd t

pub three : (a b c : Bool) → T (a && (b && c)) → T a × T b × T c
three a b c t = (and_l a (b && c) t, and_l b c (and_r a (b && c) t), and_r b c (and_r a (b && c) t))

pub true_of : (b : Bool) → T b → b ≡ true
true_of true t = refl
true_of false t = absurd t

pub of_true : (b : Bool) → b ≡ true → T b
of_true true e = tt
of_true false e = absurd (never e refl)

-- what holds of each of two values, as the test says, holds of the one that is picked
pub cond_at {ℓ} : {A : Type ℓ} (c : Bool) {x y : A} (P : A → Type 0) → (c ≡ true → P x) → (c ≡ false → P y) → P (cond c x y)
cond_at true P f g = f refl
cond_at false P f g = g refl
