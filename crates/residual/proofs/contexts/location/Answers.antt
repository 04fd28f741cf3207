use Rattle.numbers.specs.Words.{arith, le-ltb, lt-ltb}
use Rattle.residual.specs.Residual.{coordinates}
use Rattle.residual.proofs.contexts.location.Goals as goal

pub returns-then-i-lt16 : goal.returns-then-i-lt16
unfolding coordinates
returns-then-i-lt16 c = (rw (lt-ltb _ _ c.if-i-lt16.true, coordinates), (omega arith, omega arith))

pub returns : goal.returns
unfolding coordinates
returns c = (rw (le-ltb _ _ c.if-i-lt16.false, coordinates), (omega arith, omega arith))
