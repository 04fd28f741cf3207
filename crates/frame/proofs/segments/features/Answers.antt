use Rattle.frame.specs.Header.{features}
use Rattle.reader.specs.ReadsLaws.{reads_then, reads_done}
use Rattle.frame.proofs.segments.features.Goals as goal

pub returns : goal.returns
unfolding features
returns c = reads_then _ c.literal-absolute.ensures (reads_then _ c.four.ensures (reads_then _ c.four-2.ensures (reads_done _ _ _)))
