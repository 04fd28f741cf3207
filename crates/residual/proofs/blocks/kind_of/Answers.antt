use Rattle.numbers.specs.Words.{le-ltb, lt-ltb}
use Rattle.residual.specs.Residual.{kind_of}
use Rattle.residual.proofs.blocks.kind_of.Goals as goal

pub returns-then-i-ge16 : goal.returns-then-i-ge16
unfolding kind_of
returns-then-i-ge16 c = rw (le-ltb _ _ c.if-i-ge16.true, kind_of)

pub returns-then-small : goal.returns-then-small
unfolding kind_of
returns-then-small c = rw (lt-ltb _ _ c.if-i-ge16.false, c.if-small.true, kind_of)

pub returns : goal.returns
unfolding kind_of
returns c = rw (lt-ltb _ _ c.if-i-ge16.false, c.if-small.false, kind_of)
