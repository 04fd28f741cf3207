use Rattle.numbers.specs.Words.{ap₂, ◌&&◌}
use Rattle.macroblock.proofs.checks.frame_fine.Goals as goal

pub returns : goal.returns
returns c = ap₂ ◌&&◌ c.levels_fine.ensures c.levels_fine-2.ensures
