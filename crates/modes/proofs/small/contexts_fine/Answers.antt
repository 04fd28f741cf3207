use Rattle.numbers.specs.Words.{ap₂, ◌&&◌}
use Rattle.modes.proofs.small.contexts_fine.Goals as goal

pub returns : goal.returns
returns c = ap₂ ◌&&◌ c.each_below.ensures c.each_below-2.ensures
