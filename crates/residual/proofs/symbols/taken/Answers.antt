use Rattle.numbers.specs.Words.{arith}
use Rattle.residual.proofs.symbols.taken.Goals as goal

pub returns-then-on : goal.returns-then-on
returns-then-on c = rw c.if-on.true (omega (arith, c.requires))

pub returns : goal.returns
returns c = rw c.if-on.false
