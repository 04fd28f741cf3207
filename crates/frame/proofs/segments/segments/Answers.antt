use Rattle.frame.specs.Header.{segments}
use Rattle.reader.specs.ReadsLaws.{reads_then}
use Rattle.frame.specs.HeaderLaws.{reads_not, reads_when}
use Rattle.frame.proofs.segments.segments.Goals as goal

pub returns-then-on-eq0 : goal.returns-then-on-eq0
unfolding segments
returns-then-on-eq0 c = rw c.no_segments.ensures (reads_then _ c.literal-on.ensures (reads_not _ _ _ c.if-on-eq0.true))

pub returns : goal.returns
unfolding segments
returns c = reads_then _ c.literal-on.ensures (reads_when _ _ _ c.if-on-eq0.false c.update.ensures)
