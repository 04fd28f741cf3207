use Rattle.numbers.specs.Words.{arith}
use Rattle.residual.specs.SymbolsLaws.{low_fits, low_is, low_below}
use Rattle.residual.proofs.symbols.low.Goals as goal

pub overflow_mul-result : goal.overflow_mul-result
overflow_mul-result c = omega (arith, low_fits c.args.w c.args.prob c.requires (omega arith))

pub returns : goal.returns
returns c = (low_is c.args.w c.args.prob c.requires (omega arith), low_below c.args.w c.args.prob c.requires (omega arith))
