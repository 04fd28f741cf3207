use Rattle.frame.specs.Header.{update}
use Rattle.reader.specs.ReadsLaws.{reads_then, reads_done}
use Rattle.frame.proofs.segments.update.Goals as goal

pub returns : goal.returns
unfolding update
returns c = reads_then _ c.literal-map.ensures (reads_then _ c.literal-changes.ensures (reads_then _ c.features_when.ensures (reads_then _ c.probs_when.ensures (reads_done _ _ _))))
