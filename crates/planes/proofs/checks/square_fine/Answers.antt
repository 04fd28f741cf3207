-- `square_fine` meets its contract: without a stride there is no square, and else the tests are those of the definition.
use Rattle.numbers.specs.Words.{arith, lt-ltb}
use Rattle.planes.specs.Paint.{square_fine_of}
use Rattle.planes.proofs.checks.square_fine.Goals as goal

pub returns-then-stride-eq0 : goal.returns-then-stride-eq0
unfolding square_fine_of
returns-then-stride-eq0 c = rw c.if-stride-eq0.true

pub returns : goal.returns
unfolding square_fine_of
returns c = rw (lt-ltb 0 c.args.stride (omega arith), c.among.ensures, c.among-2.ensures)
