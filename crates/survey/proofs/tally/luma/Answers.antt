use Rattle.survey.specs.TallyLaws.{luma_small, luma_large}
use Rattle.survey.proofs.tally.luma.Goals as goal

pub returns-then-small : goal.returns-then-small
returns-then-small c = luma_small _ _ c.if-small.true

pub returns-else-small : goal.returns-else-small
returns-else-small c = luma_large _ _ c.if-small.false
