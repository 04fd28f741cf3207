use Rattle.numbers.specs.Words.{lt-leb}
use Rattle.webp.specs.Webp.{four_cc_at}
use Rattle.webp.specs.ReadLaws.{four_cc_long}
use Rattle.webp.proofs.read.fourcc.Goals as goal

pub returns-then-s-at : goal.returns-then-s-at
unfolding four_cc_at
returns-then-s-at c = rw (lt-leb _ _ c.if-s-at.true)

pub returns : goal.returns
returns c = four_cc_long _ _ _ c.if-s-at.false
