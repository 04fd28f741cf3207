use Rattle.numbers.specs.Words.{arith}
use Rattle.modes.specs.ContextsLaws.{tested_start, tested_next, tested_end}
use Rattle.modes.proofs.contexts.each_below.Goals as goal

pub loop-x-init : goal.loop-x-init
loop-x-init c = tested_start _ _

pub loop-x-preserved : goal.loop-x-preserved
loop-x-preserved c = tested_next _ _ (omega arith) c.loop-x.invariant

pub returns : goal.returns
returns c = tested_end _ _ (omega arith) c.loop-x.invariant
