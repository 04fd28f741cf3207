use Rattle.frame.specs.Header.{four_signed}
use Rattle.reader.specs.ReadsLaws.{reads_then, reads_done}
use Rattle.frame.proofs.literal.four.Goals as goal

pub returns : goal.returns
unfolding four_signed
returns c = reads_then _ c.signed.ensures (reads_then _ c.signed-2.ensures (reads_then _ c.signed-3.ensures (reads_then _ c.signed-4.ensures (reads_done _ _ _))))
