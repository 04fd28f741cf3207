-- `eighth` meets its contract.
use Rattle.numbers.specs.Words.{◌∙◌, ap, [], ◌∷◌, ℤ, le_z_yes, is, shr, v, known, any, signed_to, w16}
use Rattle.filter.specs.Kernel as kernel
use Rattle.filter.proofs.Clamped.{clamped}
use Rattle.filter.proofs.steps.eighth.Goals as goal

pub returns : goal.returns
unfolding kernel.eighth
returns c = (clamped (le_z_yes tt) _ c.clamp.ensures.value tt).eq ∙ ap (λ (z : ℤ). signed_to 15 z) (is w16 (known (any w16 c.ranges.a) ∷ []) (shr (v 0) 3) tt)
