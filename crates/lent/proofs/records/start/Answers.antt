use Rattle.numbers.specs.Words.{arith, refl}
use Rattle.lent.specs.RecordsLaws.{record_inside}
use Rattle.lent.proofs.records.start.Goals as goal

pub overflow_mul-result : goal.overflow_mul-result
overflow_mul-result c = omega (arith, record_inside _ _ _ c.requires.0 c.requires.1)

pub returns : goal.returns
returns c = (refl, record_inside _ _ _ c.requires.0 c.requires.1)
