use Rattle.frame.proofs.Turns.{going_start, going_next, going_end}
use Rattle.frame.proofs.probs.probs.Goals as goal

pub loop-i-init : goal.loop-i-init
loop-i-init c = going_start c.defaults-table.ensures

pub loop-i-preserved : goal.loop-i-preserved
loop-i-preserved c = going_next c.loop-i.invariant c.loop-i-test.true c.updates-chances.ensures c.prob-p.ensures

pub returns : goal.returns
returns c = going_end c.loop-i.invariant c.loop-i-test.false
