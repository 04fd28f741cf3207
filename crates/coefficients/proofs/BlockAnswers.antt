-- The token of the last category.
use Rattle.numbers.specs.Words.{ℕ, ◌+◌, ◌≤◌, arith, ◌≡◌}

-- a category's token that no arm of a `match` took is 11
past : {t k : ℕ} → k ≤ t → (t ≡ k → ⊥) → k + 1 ≤ t
past l n = omega arith

pub last : {t : ℕ} → 6 ≤ t → t ≤ 11 → (((((Unit {0} × (t ≡ 6 → ⊥)) × (t ≡ 7 → ⊥)) × (t ≡ 8 → ⊥)) × (t ≡ 9 → ⊥)) × (t ≡ 10 → ⊥)) → t ≡ 11
last l h n =
    let eleven = past (past (past (past (past l n.0.0.0.0.1) n.0.0.0.1) n.0.0.1) n.0.1) n.1 in
    omega (arith, eleven, h)
