-- `blocks_fine` meets its contract: a square has few samples, so nothing wraps.
use Rattle.numbers.specs.Words.{mul-le-mul, arith}
use Rattle.planes.specs.Places.{size_some}
use Rattle.planes.specs.PiecesLaws.{far_blocks}
use Rattle.planes.proofs.checks.blocks_fine.Goals as goal

pub returns-then-from-gt16 : goal.returns-then-from-gt16
returns-then-from-gt16 c = far_blocks c.args.size c.args.len c.args.from c.if-from-gt16.true

pub overflow_mul-result-2 : goal.overflow_mul-result-2
overflow_mul-result-2 c = let l = (size_some c.requires).1 in omega (arith, mul-le-mul l l)

pub overflow_add-result : goal.overflow_add-result
overflow_add-result c = let l = (size_some c.requires).1 in omega (arith, mul-le-mul l l)
