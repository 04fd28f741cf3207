use Rattle.numbers.specs.Words.{lit<, le-ltb, lt-ltb}
use Rattle.frame.specs.Places.{partition_size}
use Rattle.frame.proofs.places.sized.Goals as goal

pub returns-then-i-count : goal.returns-then-i-count
unfolding partition_size
returns-then-i-count c = (rw (lt-ltb _ _ c.if-i-count.true, partition_size) c.three.ensures.0, c.three.ensures.1)

pub returns : goal.returns
unfolding partition_size
returns c = (rw (le-ltb _ _ c.if-i-count.false, partition_size), lit< tt)
