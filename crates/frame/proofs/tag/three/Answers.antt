use Rattle.numbers.specs.Words.{arith}
use Rattle.frame.specs.Tag.{three_at}
use Rattle.frame.proofs.tag.three.Goals as goal

pub returns : goal.returns
unfolding three_at
returns c = (rw (c.byte.ensures.0, c.byte-2.ensures.0, c.byte-3.ensures.0), omega arith)
