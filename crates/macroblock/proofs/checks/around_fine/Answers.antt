use Rattle.numbers.specs.Words.{ap₂, ◌&&◌}
use Rattle.macroblock.proofs.checks.around_fine.Goals as goal

pub returns : goal.returns
returns c = ap₂ ◌&&◌ c.context_fine.ensures c.context_fine-2.ensures
