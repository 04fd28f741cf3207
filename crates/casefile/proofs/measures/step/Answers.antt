use Rattle.casefile.specs.Measures.{fnv_step}
use Rattle.casefile.proofs.measures.step.Goals as goal

pub returns : goal.returns
unfolding fnv_step
returns c = rw c.from.ensures at c.times.ensures
