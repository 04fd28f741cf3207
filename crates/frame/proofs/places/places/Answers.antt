use Rattle.numbers.specs.Words.{arith, refl}
use Rattle.frame.proofs.Turns.{placing_start, placing_next, placing_end}
use Rattle.frame.proofs.places.places.Goals as goal

pub loop-i-init : goal.loop-i-init
loop-i-init c = placing_start refl refl c.requires.0 c.requires.2

pub cut-requires : goal.cut-requires
cut-requires c = (c.requires.0, c.loop-i-test.true)

pub sized-at-requires : goal.sized-at-requires
sized-at-requires c = (c.requires.0, c.loop-i-test.true)

pub overflow_add-at-in-loop-i : goal.overflow_add-at-in-loop-i
overflow_add-at-in-loop-i c = omega (arith, c.loop-i.invariant.small, c.sized-at.ensures.1)

pub loop-i-preserved : goal.loop-i-preserved
loop-i-preserved c = placing_next c.loop-i.invariant c.loop-i-test.true c.cut.ensures c.sized-at.ensures.0 c.sized-at.ensures.1

pub returns : goal.returns
returns c = placing_end c.loop-i.invariant (omega arith)
