use Rattle.frame.specs.Header.{signed}
use Rattle.reader.specs.ReadsLaws.{reads_then, reads_done}
use Rattle.frame.specs.HeaderLaws.{reads_not, reads_when}
use Rattle.frame.proofs.literal.signed.Goals as goal

pub returns-then-given-eq0 : goal.returns-then-given-eq0
unfolding signed
returns-then-given-eq0 c = reads_then _ c.literal-given.ensures (reads_not _ _ _ c.if-given-eq0.true)

pub returns : goal.returns
unfolding signed
returns c = reads_then _ c.literal-given.ensures (reads_when _ _ _ c.if-given-eq0.false (reads_then _ c.literal-size.ensures (reads_then _ c.literal-sign.ensures (reads_done _ _ _))))
