use Rattle.numbers.specs.Words.{arith}
use Rattle.survey.specs.SurveyLaws.{fits_none, fits_next, fits_out, fits_all}
use Rattle.survey.proofs.sums.fits.Goals as goal
use Rattle.survey.proofs.sums.fits.Goals.{then-a-gt-LIMIT-via-then-a-gt-LIMIT, then-a-gt-LIMIT-via-else-a-gt-LIMIT+then-a-other}

pub loop-i-init : goal.loop-i-init
loop-i-init c = (omega arith, fits_none _ _)

pub returns-then-a-gt-LIMIT : goal.returns-then-a-gt-LIMIT
returns-then-a-gt-LIMIT c = fits_out _ _ 37 _ c.loop-i-test.true (elim c.then-a-gt-LIMIT.branch [
  | then-a-gt-LIMIT-via-then-a-gt-LIMIT w ↦ omega (arith, w.if-a-gt-LIMIT.true)
  | then-a-gt-LIMIT-via-else-a-gt-LIMIT+then-a-other w ↦ omega (arith, w.if-a-other.true, w.if-a-gt-LIMIT.false)
])

pub loop-i-preserved : goal.loop-i-preserved
loop-i-preserved c = (omega (arith, c.loop-i-test.true), fits_next _ _ _ c.loop-i.invariant.1 (omega (arith, c.if-a-other.false, c.if-a-gt-LIMIT.false)))

pub returns : goal.returns
returns c = fits_all _ _ _ c.loop-i.invariant.0 c.loop-i-test.false c.loop-i.invariant.1
