use Rattle.frame.specs.HeaderLaws.{reads_not, reads_when}
use Rattle.frame.proofs.filter.deltas_when.Goals as goal

pub returns-then-flag-eq0 : goal.returns-then-flag-eq0
returns-then-flag-eq0 c = rw c.no_deltas.ensures (reads_not _ _ _ c.if-flag-eq0.true)

pub returns : goal.returns
returns c = reads_when _ _ _ c.if-flag-eq0.false c.deltas_update.ensures
