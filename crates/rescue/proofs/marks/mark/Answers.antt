use Rattle.numbers.specs.Words.{arith, refl, filled_none, filled_next, filled_all}
use Rattle.rescue.specs.RescueLaws.{marks_built}
use Rattle.rescue.proofs.marks.mark.Goals as goal

pub loop-i-init : goal.loop-i-init
loop-i-init c = filled_none _ _ _ refl

pub loop-i-preserved : goal.loop-i-preserved
loop-i-preserved c = filled_next _ (omega (arith, c.loop-i-test.true, c.loop-i.invariant.long)) c.mark_of.ensures c.loop-i.invariant

pub shape_of-marks : goal.shape_of-marks
shape_of-marks c = c.loop-i.invariant.long

pub returns : goal.returns
returns c = marks_built _ _ _ (filled_all (omega (arith, c.loop-i-test.false, c.loop-i.invariant.long)) c.loop-i.invariant)
