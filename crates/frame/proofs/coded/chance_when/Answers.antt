use Rattle.frame.specs.HeaderLaws.{reads_not, reads_when}
use Rattle.frame.proofs.coded.chance_when.Goals as goal

pub returns-then-flag-eq0 : goal.returns-then-flag-eq0
returns-then-flag-eq0 c = reads_not _ _ _ c.if-flag-eq0.true

pub returns-else-flag-eq0 : goal.returns-else-flag-eq0
returns-else-flag-eq0 c = reads_when _ _ _ c.if-flag-eq0.false c.literal.ensures
