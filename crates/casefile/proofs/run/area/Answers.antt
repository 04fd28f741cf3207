use Rattle.numbers.specs.Words.{mul-le-mul, arith, refl}
use Rattle.casefile.proofs.run.area.Goals as goal

pub overflow_mul-result : goal.overflow_mul-result
overflow_mul-result c = record { fits = let p = mul-le-mul c.requires.0 c.requires.1 in let q = mul-le-mul c.requires.2 c.requires.2 in omega arith }

pub returns : goal.returns
returns c = (refl, mul-le-mul c.requires.0 c.requires.1)
