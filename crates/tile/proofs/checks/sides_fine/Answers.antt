use Rattle.tile.specs.Tile.{sides_of}
use Rattle.tile.proofs.checks.sides_fine.Goals as goal

pub returns : goal.returns
unfolding sides_of
returns c = rw (c.side_fine.ensures, c.side_fine-2.ensures)
