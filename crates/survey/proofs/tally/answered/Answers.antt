use Rattle.survey.specs.TallyLaws.{answered_at, counted_off}
use Rattle.survey.proofs.tally.answered.Goals as goal

pub returns-then-at-lt8 : goal.returns-then-at-lt8
returns-then-at-lt8 c = answered_at _ c.if-at-lt8.true

pub returns-else-at-lt8 : goal.returns-else-at-lt8
returns-else-at-lt8 c = counted_off _ _ _ _ c.if-at-lt8.false
