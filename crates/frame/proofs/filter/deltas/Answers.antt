use Rattle.frame.specs.Header.{deltas}
use Rattle.reader.specs.ReadsLaws.{reads_then, reads_done}
use Rattle.frame.proofs.filter.deltas.Goals as goal

pub returns : goal.returns
unfolding deltas
returns c = reads_then _ c.four.ensures (reads_then _ c.four-2.ensures (reads_done _ _ _))
