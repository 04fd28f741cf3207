use Rattle.frame.specs.Header.{quantizers}
use Rattle.reader.specs.ReadsLaws.{reads_then, reads_done}
use Rattle.frame.proofs.quantizers.quantizers.Goals as goal

pub returns : goal.returns
unfolding quantizers
returns c = reads_then _ c.literal-base.ensures (reads_then _ c.signed.ensures (reads_then _ c.signed-2.ensures (reads_then _ c.signed-3.ensures (reads_then _ c.signed-4.ensures (reads_then _ c.signed-5.ensures (reads_done _ _ _))))))
