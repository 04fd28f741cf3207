-- Laws of stores at places that a rule gives: what stands at each place after them.
use Prim.Native.Nat.{ℕ, zero, suc, ◌+◌, ◌<◌}
use Rattle.std.specs.Prelude.{◌≡◌, length, get_or}
use Rattle.std.proofs.Math.Path.{refl, ap}
use Rattle.std.proofs.Common.{◌∙◌, ap₂, get_or-set_same}
use mathlib.Core.List.{List}
use Rattle.std.proofs.Math.Decide.{ℕ_discrete}
use Rattle.std.proofs.Math.Nat.{add-zero}
use Rattle.std.proofs.Math.Numerals.{add-one}
use native.Mathlib.Omega.{arith}
use Rattle.std.proofs.Math.ListN.{set, length-set}
use Rattle.std.proofs.Math.Seq.{get_or-set_other}
use Rattle.numbers.specs.Lists.{set_keeps}
use Rattle.numbers.specs.Stores.{stored_at}

module _ {ℓ} {A : Type ℓ} (p : List A) (at : ℕ → ℕ) (f : ℕ → A) where
  pub stored_none : stored_at p at f 0 ≡ p
  unfolding stored_at
  stored_none = refl

  pub stored_next : (n : ℕ) → set (stored_at p at f n) (at n) (f n) ≡ stored_at p at f (n + 1)
  unfolding stored_at
  stored_next n = rw add-one

  pub length_stored : (n : ℕ) → length (stored_at p at f n) ≡ length p
  unfolding stored_at
  length_stored zero = refl
  length_stored (suc n) = length-set (stored_at p at f n) (at n) (f n) ∙ length_stored n

  -- a place that is none of them
  pub stored_off : (n i : ℕ) (d : A) → ((j : ℕ) → j < n → i ≡ at j → ⊥) → get_or (stored_at p at f n) i d ≡ get_or p i d
  unfolding stored_at
  stored_off zero i d h = refl
  stored_off (suc n) i d h = get_or-set_other (stored_at p at f n) (at n) i (f n) d (h n (omega arith)) ∙ stored_off n i d (λ j l. h j (omega arith))

  -- one of them, where they lie in the list and apart
  pub stored_in : (n j : ℕ) (d : A) → ((k : ℕ) → k < n → (at k < length p) × (at j ≡ at k → j ≡ k)) → j < n → get_or (stored_at p at f n) (at j) d ≡ f j
  unfolding stored_at
  stored_in zero j d h l = absurd (omega arith)
  stored_in (suc n) j d h l = elim (ℕ_discrete j n) [
    | yes e ↦ rw e (get_or-set_same (stored_at p at f n) (at n) (f n) d (rw (length_stored n) (h n (omega arith)).0))
    | no e ↦ get_or-set_other (stored_at p at f n) (at n) (at j) (f n) d (λ q. e ((h n (omega arith)).1 q)) ∙ stored_in n j d (λ k m. h k (omega arith)) (omega arith)
  ]

  -- what holds of every element before, and of what is stored, holds of every element after
  pub stored_keeps : (P : A → Type 0) (n : ℕ) (d : A) → ((j : ℕ) → P (get_or p j d)) → ((j : ℕ) → P (f j)) → (j : ℕ) → P (get_or (stored_at p at f n) j d)
  unfolding stored_at
  stored_keeps P zero d h k = h
  stored_keeps P (suc n) d h k = set_keeps P (stored_at p at f n) (at n) (f n) d (k n) (stored_keeps P n d h k)

  -- n more, behind the first m
  pub stored_more : (m n : ℕ) → stored_at (stored_at p at f m) (λ k. at (m + k)) (λ k. f (m + k)) n ≡ stored_at p at f (m + n)
  unfolding stored_at
  stored_more m zero = rw add-zero
  stored_more m (suc n) =
      let e : m + n + 1 ≡ m + suc n = omega arith in
      ap (λ (q : List A). set q (at (m + n)) (f (m + n))) (stored_more m n) ∙ stored_next (m + n) ∙ ap (stored_at p at f) e

-- two rules that agree below n store the same
pub stored_same {ℓ} : {A : Type ℓ} (p : List A) (at at' : ℕ → ℕ) (f f' : ℕ → A) (n : ℕ) → ((k : ℕ) → k < n → (at k ≡ at' k) × (f k ≡ f' k)) → stored_at p at f n ≡ stored_at p at' f' n
unfolding stored_at
stored_same p at at' f f' zero h = refl
stored_same p at at' f f' (suc n) h =
    let e = h n (omega arith) in
    ap (λ (l : List _). set l (at n) (f n)) (stored_same p at at' f f' n (λ k l. h k (omega arith))) ∙ ap₂ (set (stored_at p at' f' n)) e.0 e.1
