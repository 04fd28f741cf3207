use Rattle.residual.specs.ResidualSteps.{dc_small, dc_second}
use Rattle.residual.proofs.blocks.dc_stage.Goals as goal

pub returns-then-small : goal.returns-then-small
returns-then-small c = dc_small _ _ _ _ c.if-small.true _ _

pub returns : goal.returns
returns c = dc_second _ _ _ _ _ _ c.if-small.false c.read_second.ensures
