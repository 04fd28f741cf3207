-- Lists with elements replaced at places that a rule gives, as a loop that stores one after the other leaves them.
use Rattle.std.specs.Prelude.{ℕ, zero, suc, List, set}

-- p with f 0, f 1, .. f (n - 1) at the places at 0, at 1, .. at (n - 1)
unfoldable pub stored_at {ℓ} : {A : Type ℓ} → List A → (at : ℕ → ℕ) (f : ℕ → A) → ℕ → List A
stored_at p at f zero = p
stored_at p at f (suc n) = set (stored_at p at f n) (at n) (f n)
