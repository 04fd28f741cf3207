use Rattle.modes.proofs.Steps.{luma_small, luma_large}
use Rattle.modes.proofs.quick.luma.Goals as goal

pub returns-then-small : goal.returns-then-small
returns-then-small c = luma_small _ _ _ _ c.if-small.true c.sixteen.ensures

pub returns : goal.returns
returns c = luma_large _ _ _ _ c.if-small.false c.large-mode.ensures
