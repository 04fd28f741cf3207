use Rattle.numbers.specs.Words.{refl}
use Rattle.tile.specs.Tile.{side_of}
use Rattle.tile.proofs.checks.side_fine.Goals as goal

pub returns : goal.returns
unfolding side_of
returns c = refl
