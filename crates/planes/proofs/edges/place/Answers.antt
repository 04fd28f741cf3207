-- `place` meets its contract: the bounds keep the product small.
use Rattle.numbers.specs.Words.{mul-le-mul, arith}
use Rattle.planes.proofs.edges.place.Goals as goal

pub overflow_mul-result : goal.overflow_mul-result
overflow_mul-result c = omega (arith, mul-le-mul c.requires.0 c.requires.1)

pub overflow_add-result : goal.overflow_add-result
overflow_add-result c = omega (arith, mul-le-mul c.requires.0 c.requires.1)
