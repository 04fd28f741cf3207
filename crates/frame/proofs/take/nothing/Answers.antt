use Rattle.frame.specs.Take.{nothing_taken}
use Rattle.frame.proofs.take.nothing.Goals as goal

pub returns : goal.returns
unfolding nothing_taken
returns c = rw c.refused.ensures
