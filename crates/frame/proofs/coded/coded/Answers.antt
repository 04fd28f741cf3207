use Rattle.frame.specs.Header.{header}
use Rattle.reader.specs.ReadsLaws.{reads_then, reads_done}
use Rattle.frame.proofs.coded.coded.Goals as goal

pub returns : goal.returns
unfolding header
returns c = reads_then _ c.literal-colour.ensures (reads_then _ c.literal-clamping.ensures (reads_then _ c.segments.ensures (reads_then _ c.filter.ensures (reads_then _ c.literal-partitions.ensures (reads_then _ c.quantizers.ensures (reads_then _ c.literal-refresh.ensures (reads_then _ c.probs.ensures (reads_then _ c.literal-skip.ensures (reads_then _ c.chance_when-chance.ensures (reads_done _ _ _))))))))))
