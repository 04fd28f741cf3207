use Rattle.numbers.specs.Words.{mul-le-mul, arith, refl}
use Rattle.lent.proofs.sizes.area.Goals as goal

pub returns-then-a-gt16384 : goal.returns-then-a-gt16384
returns-then-a-gt16384 c = ((λ g h. absurd (omega (arith, c.if-a-gt16384.true))), omega arith)

pub returns-then-b-gt16384 : goal.returns-then-b-gt16384
returns-then-b-gt16384 c = ((λ g h. absurd (omega (arith, c.if-b-gt16384.true))), omega arith)

pub overflow_mul-result : goal.overflow_mul-result
overflow_mul-result c = omega (arith, mul-le-mul c.if-a-gt16384.false c.if-b-gt16384.false)

pub returns : goal.returns
returns c = ((λ g h. refl), mul-le-mul c.if-a-gt16384.false c.if-b-gt16384.false)
