-- `add_row` meets its contract: the sums, copied over what they are sums of.
use Rattle.planes.specs.PiecesLaws.{sums_placed}
use Rattle.planes.proofs.add.add_row.Goals as goal

pub returns : goal.returns
returns c = sums_placed _ _ _ c.sums-b.ensures c.copy_row.ensures
