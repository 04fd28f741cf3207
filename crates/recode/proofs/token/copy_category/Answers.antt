use Rattle.numbers.specs.Words.{ℕ, ◌+◌, ◌≤◌, arith, ◌≡◌, sym, ap, [], ◌∷◌}
use Rattle.coefficients.specs.Block.{categories, bases, magnitude}
use Rattle.recode.specs.TokenCopies.{category_copies}
use Rattle.recode.proofs.token.copy_category.Goals as goal

past : {t k : ℕ} → k ≤ t → (t ≡ k → ⊥) → k + 1 ≤ t
past l n = omega arith

last : {t : ℕ} → (6 ≤ t) × (t ≤ 11) → (((((Unit {0} × (t ≡ 6 → ⊥)) × (t ≡ 7 → ⊥)) × (t ≡ 8 → ⊥)) × (t ≡ 9 → ⊥)) × (t ≡ 10 → ⊥)) → t ≡ 11
last r n =
    let eleven = past (past (past (past (past r.0 n.0.0.0.0.1) n.0.0.0.1) n.0.0.1) n.0.1) n.1 in
    omega (arith, eleven, r.1)

pub returns-in-6 : goal.returns-in-6
unfolding magnitude categories bases
returns-in-6 c = category_copies c.args.token 5 (159 ∷ []) (ap magnitude (sym c.in-6.is)) c.copy_extra.ensures

pub returns-in-7 : goal.returns-in-7
unfolding magnitude categories bases
returns-in-7 c = category_copies c.args.token 7 (165 ∷ 145 ∷ []) (ap magnitude (sym c.in-7.is)) c.copy_extra-in-7.ensures

pub returns-in-8 : goal.returns-in-8
unfolding magnitude categories bases
returns-in-8 c = category_copies c.args.token 11 (173 ∷ 148 ∷ 140 ∷ []) (ap magnitude (sym c.in-8.is)) c.copy_extra-in-8.ensures

pub returns-in-9 : goal.returns-in-9
unfolding magnitude categories bases
returns-in-9 c = category_copies c.args.token 19 (176 ∷ 155 ∷ 140 ∷ 135 ∷ []) (ap magnitude (sym c.in-9.is)) c.copy_extra-in-9.ensures

pub returns-in-10 : goal.returns-in-10
unfolding magnitude categories bases
returns-in-10 c = category_copies c.args.token 35 (180 ∷ 157 ∷ 141 ∷ 134 ∷ 130 ∷ []) (ap magnitude (sym c.in-10.is)) c.copy_extra-in-10.ensures

pub returns-in_default : goal.returns-in_default
unfolding magnitude categories bases
returns-in_default c = category_copies c.args.token 67 (254 ∷ 254 ∷ 243 ∷ 230 ∷ 196 ∷ 177 ∷ 153 ∷ 140 ∷ 133 ∷ 130 ∷ 129 ∷ []) (ap magnitude (sym (last c.requires c.in_default.in_default-own.rest))) c.copy_extra-in_default.ensures
