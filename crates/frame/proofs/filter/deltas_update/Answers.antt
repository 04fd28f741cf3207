use Rattle.frame.specs.Header.{deltas_update_of}
use Rattle.reader.specs.ReadsLaws.{reads_then}
use Rattle.frame.specs.HeaderLaws.{reads_not, reads_when}
use Rattle.frame.proofs.filter.deltas_update.Goals as goal

pub returns-then-update-eq0 : goal.returns-then-update-eq0
unfolding deltas_update_of
returns-then-update-eq0 c = rw c.no_deltas.ensures (reads_then _ c.literal-update.ensures (reads_not _ _ _ c.if-update-eq0.true))

pub returns : goal.returns
unfolding deltas_update_of
returns c = reads_then _ c.literal-update.ensures (reads_when _ _ _ c.if-update-eq0.false c.deltas.ensures)
