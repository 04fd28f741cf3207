use Rattle.numbers.specs.Words.{arith}
use Rattle.frame.specs.Tag.{two_at}
use Rattle.frame.proofs.tag.two.Goals as goal

pub returns : goal.returns
unfolding two_at
returns c = (rw (c.byte.ensures.0, c.byte-2.ensures.0), omega arith)
