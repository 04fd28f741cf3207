use Rattle.frame.specs.Header.{map_prob_of}
use Rattle.reader.specs.ReadsLaws.{reads_then}
use Rattle.frame.specs.HeaderLaws.{reads_not, reads_when}
use Rattle.frame.proofs.segments.map_prob.Goals as goal

pub returns-then-given-eq0 : goal.returns-then-given-eq0
unfolding map_prob_of
returns-then-given-eq0 c = reads_then _ c.literal-given.ensures (reads_not _ _ _ c.if-given-eq0.true)

pub returns : goal.returns
unfolding map_prob_of
returns c = reads_then _ c.literal-given.ensures (reads_when _ _ _ c.if-given-eq0.false c.literal.ensures)
