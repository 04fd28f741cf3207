-- `plus` meets its contract: what is taken into the range fits 8 bits.
use Rattle.numbers.specs.Words.{◌∙◌, ap, List, [], ◌∷◌, ℤ, fit, rounded, inside, Var, is, ◌⊕◌, v, known, any, answered, signed_byte_z, signed_in, w8, w16}
use Rattle.straight.proofs.steps.plus.Goals.{After-signed_byte}
use Rattle.straight.proofs.steps.plus.Goals as goal

abbrev ρ : After-signed_byte → List Var
ρ c =
    known (answered w16 (c.from.ensures ∙ (any w8 c.ranges.a).eq) (inside (any w8 c.ranges.a)) tt)
    ∷ known (answered w16 (c.from-2.ensures ∙ (any w8 c.ranges.b).eq) (inside (any w8 c.ranges.b)) tt) ∷ []

abbrev out : After-signed_byte → Var
out c = known (answered w16 (c.signed_byte.ensures ∙ ap (λ (z : ℤ). signed_byte_z z) (is w16 (ρ c) (v 0 ⊕ v 1) tt)) (signed_in 127 _) tt)

pub overflow_cast-result : goal.overflow_cast-result
overflow_cast-result c = fit (out c).is tt

pub returns : goal.returns
returns c = (rounded w8 (out c).is tt).eq
