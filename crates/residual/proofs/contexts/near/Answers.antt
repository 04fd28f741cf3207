use Rattle.numbers.specs.Words.{arith, refl}
use Rattle.residual.proofs.contexts.near.Goals as goal

pub overflow_add-result : goal.overflow_add-result
overflow_add-result c = omega (arith, c.requires.0.each c.args.x, c.requires.1.0.each c.args.y)

pub overflow_cast-result : goal.overflow_cast-result
overflow_cast-result c = omega (arith, c.requires.0.each c.args.x, c.requires.1.0.each c.args.y)

pub returns : goal.returns
returns c = (refl, omega (arith, c.requires.0.each c.args.x, c.requires.1.0.each c.args.y))
