use Rattle.frame.specs.Header.{filter}
use Rattle.reader.specs.ReadsLaws.{reads_then, reads_done}
use Rattle.frame.proofs.filter.filter.Goals as goal

pub returns : goal.returns
unfolding filter
returns c = reads_then _ c.literal-kind.ensures (reads_then _ c.literal-level.ensures (reads_then _ c.literal-sharpness.ensures (reads_then _ c.literal-on.ensures (reads_then _ c.deltas_when.ensures (reads_done _ _ _)))))
