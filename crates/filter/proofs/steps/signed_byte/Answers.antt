-- `signed_byte` meets its contract.
use Rattle.numbers.specs.Words.{◌∙◌, ap, le_z_yes, any, signed_byte_z, w16}
use Rattle.filter.proofs.Clamped.{clamped}
use Rattle.filter.proofs.steps.signed_byte.Goals as goal

pub returns : goal.returns
returns c = (clamped (le_z_yes tt) _ c.clamp.ensures.value tt).eq ∙ ap signed_byte_z (any w16 c.ranges.v).eq
