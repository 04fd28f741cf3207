use Rattle.numbers.specs.Words.{sym, ◌∙◌, not-false, not-true, rules}
use Rattle.survey.specs.SurveyLaws.{add_long, add_other, add_full, add_fits}
use Rattle.survey.proofs.sums.add.Goals as goal

pub returns-then-counts-ne-COUNTS : goal.returns-then-counts-ne-COUNTS
returns-then-counts-ne-COUNTS c = add_long _ _ c.if-counts-ne-COUNTS.true

pub returns-then-other-ne-COUNTS : goal.returns-then-other-ne-COUNTS
returns-then-other-ne-COUNTS c = add_other _ _ c.if-other-ne-COUNTS.true

pub returns-then-not-fits : goal.returns-then-not-fits
returns-then-not-fits c = add_full _ _ (search rules) (search rules) (sym c.fits.ensures ∙ not-true _ c.if-not-fits.true-raw)

pub sum-requires : goal.sum-requires
sum-requires c = record { counts_len = (search rules, search rules); other_value = sym c.fits.ensures ∙ not-false _ c.if-not-fits.false-raw }

pub returns : goal.returns
returns c = add_fits _ _ (search rules) (search rules) (sym c.fits.ensures ∙ not-false _ c.if-not-fits.false-raw) c.sum.ensures
