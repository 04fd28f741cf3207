-- `spot` meets its contract: a byte widened is itself.
use Rattle.numbers.specs.Words.{arith, refl}
use Rattle.residual.proofs.fast.spot.Goals as goal

pub overflow_cast-result : goal.overflow_cast-result
overflow_cast-result c = record { fits = omega (arith, c.requires.by_index c.args.n) }

pub returns : goal.returns
returns c = (refl, c.requires.by_index c.args.n)
