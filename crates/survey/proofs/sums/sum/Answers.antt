use Rattle.numbers.specs.Words.{arith, refl, sym, ◌∙◌}
use Rattle.survey.specs.SurveyLaws.{adding_start, adding_next, adding_fits, adding_end}
use Rattle.survey.proofs.sums.sum.Goals as goal

pub loop-i-init : goal.loop-i-init
loop-i-init c = adding_start _ _ c.requires.counts_len.0

pub overflow_add-counts : goal.overflow_add-counts
overflow_add-counts c = omega (arith, adding_fits _ _ _ _ c.loop-i.invariant c.requires.other_value c.loop-i-test.true)

pub loop-i-preserved : goal.loop-i-preserved
loop-i-preserved c = adding_next _ _ _ _ c.loop-i.invariant _ refl c.loop-i-test.true

pub shape_of-counts : goal.shape_of-counts
shape_of-counts c = c.loop-i.invariant.long ∙ sym c.requires.counts_len.0

pub returns : goal.returns
returns c = adding_end _ _ _ _ c.loop-i.invariant c.loop-i-test.false
