-- `tapped` meets its contract.
use Rattle.numbers.specs.Words.{◌∙◌, ap, List, [], ◌∷◌, ℤ, inside_read, Var, know, fits, ◌⊕◌, v, known, answered, called, signed_byte_z, signed_in, w16}
use Rattle.filter.specs.Kernel as kernel
use Rattle.filter.proofs.steps.tapped.Goals as goal

-- the step across the edge, and the outer taps
abbrev ρ : goal.After-signed_byte → List Var
ρ c =
    known (called w16 c.across.ensures.value c.across.ensures.fact tt)
    ∷ known (answered w16 (c.signed_byte.ensures ∙ ap (λ (z : ℤ). signed_byte_z z) (called w16 c.minus.ensures.value c.minus.ensures.fact tt).eq) (signed_in 127 _) tt) ∷ []

pub overflow_add-result : goal.overflow_add-result
overflow_add-result c = fits w16 (ρ c) (v 0 ⊕ v 1) tt

pub returns : goal.returns
unfolding kernel.tapped
returns c = let k = know w16 (ρ c) (v 0 ⊕ v 1) tt in record { value = k.eq; fact = inside_read k }
