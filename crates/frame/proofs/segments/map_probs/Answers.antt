use Rattle.frame.specs.Header.{map_probs_of}
use Rattle.reader.specs.ReadsLaws.{reads_then, reads_done}
use Rattle.frame.proofs.segments.map_probs.Goals as goal

pub returns : goal.returns
unfolding map_probs_of
returns c = reads_then _ c.map_prob-a.ensures (reads_then _ c.map_prob-b.ensures (reads_then _ c.map_prob-c.ensures (reads_done _ _ _)))
