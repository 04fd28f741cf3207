use Rattle.numbers.specs.Words.{arith}
use Rattle.rescue.specs.ChecksLaws.{passed_wrong, passed_right, refused_early, refused_wrong, refused_right}
use Rattle.rescue.proofs.checks.refusal_with_marks.Goals as goal

pub returns-then-marks-sizes : goal.returns-then-marks-sizes
returns-then-marks-sizes c = passed_wrong _ _ _ c.in-Ok.ensures c.if-marks-sizes.true

pub returns-else-marks-sizes : goal.returns-else-marks-sizes
returns-else-marks-sizes c = passed_right _ _ _ c.in-Ok.ensures c.if-marks-sizes.false

pub returns-then-n-lt5 : goal.returns-then-n-lt5
returns-then-n-lt5 c = refused_early _ _ _ c.in-Err.ensures (omega (arith, c.number-n.ensures, c.if-n-lt5.true))

pub returns-then-marks-sizes-2 : goal.returns-then-marks-sizes-2
returns-then-marks-sizes-2 c = refused_wrong _ _ _ c.in-Err.ensures (omega (arith, c.number-n.ensures, c.if-n-lt5.false)) c.if-marks-sizes-2.true

pub returns-else-marks-sizes-2 : goal.returns-else-marks-sizes-2
returns-else-marks-sizes-2 c = refused_right _ _ _ c.in-Err.ensures (omega (arith, c.number-n.ensures, c.if-n-lt5.false)) c.if-marks-sizes-2.false
