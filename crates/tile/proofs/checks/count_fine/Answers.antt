use Rattle.numbers.specs.Words.{refl}
use Rattle.tile.specs.Tile.{count_of}
use Rattle.tile.proofs.checks.count_fine.Goals as goal

pub returns : goal.returns
unfolding count_of
returns c = refl
