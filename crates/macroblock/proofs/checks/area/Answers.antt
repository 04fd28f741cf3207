use Rattle.numbers.specs.Words.{mul-le-mul, arith}
use Rattle.macroblock.proofs.checks.area.Goals as goal

pub overflow_mul-result : goal.overflow_mul-result
overflow_mul-result c = omega (arith, mul-le-mul c.requires.0 c.requires.1)
