-- `quantizer` meets its contract, branch by branch.
use Rattle.coefficients.specs.BlockSteps.{quantizer_first, quantizer_later}
use Rattle.residual.proofs.fast.quantizer.Goals as goal

pub returns-then-n-eq0 : goal.returns-then-n-eq0
returns-then-n-eq0 c = quantizer_first _ _ _ c.if-n-eq0.true

pub returns-else-n-eq0 : goal.returns-else-n-eq0
returns-else-n-eq0 c = quantizer_later _ _ _ c.if-n-eq0.false
