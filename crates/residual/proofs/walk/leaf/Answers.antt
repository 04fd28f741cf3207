use Rattle.numbers.specs.Words.{arith, refl}
use Rattle.residual.proofs.walk.leaf.Goals as goal

pub returns-then-on : goal.returns-then-on
returns-then-on c = rw c.if-on.true (refl, omega arith)

pub returns-else-on : goal.returns-else-on
returns-else-on c = rw c.if-on.false (omega arith, omega arith)
