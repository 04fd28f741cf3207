use Rattle.modes.specs.CountsLaws.{depth_bounded}
use Rattle.modes.proofs.counts.depth_of.Goals as goal

pub returns : goal.returns
returns c = depth_bounded _ c.requires.depths_value (rw c.from.ensures at c.from-2.ensures)
