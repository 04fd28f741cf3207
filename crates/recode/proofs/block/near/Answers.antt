use Rattle.numbers.specs.Words.{arith, ◌∙◌}
use Rattle.coefficients.specs.BlockSteps.{context_one, context_more}
use Rattle.recode.specs.BlockCopies.{near_zero, near_number}
use Rattle.recode.proofs.block.near.Goals as goal

pub returns-then-token-eq1 : goal.returns-then-token-eq1
returns-then-token-eq1 c = (near_zero _ c.if-token-eq1.true, omega arith)

pub returns-then-token-eq2 : goal.returns-then-token-eq2
returns-then-token-eq2 c = (context_one _ c.if-token-eq2.true ∙ near_number _ c.if-token-eq1.false, omega arith)

pub returns : goal.returns
returns c = (context_more _ c.if-token-eq2.false ∙ near_number _ c.if-token-eq1.false, omega arith)
