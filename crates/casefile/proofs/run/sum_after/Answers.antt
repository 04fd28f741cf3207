use Rattle.numbers.specs.Words.{◌∙◌}
use Rattle.casefile.specs.RunLaws.{sum_refused, sum_decoded}
use Rattle.casefile.proofs.run.sum_after.Goals as goal

pub returns-then-number : goal.returns-then-number
returns-then-number c = sum_refused _ _ c.if-number.true

pub returns : goal.returns
returns c = c.sum.ensures ∙ sum_decoded _ _ c.if-number.false
