-- `put_block` meets its contract, row by row.
use Rattle.planes.specs.PiecesLaws.{rows_copied_lem}
use Rattle.planes.proofs.put.put_block.Goals as goal

pub returns : goal.returns
returns c = rows_copied_lem _ _ _ _ c.copy_row.ensures c.copy_row-2.ensures c.copy_row-3.ensures c.copy_row-4.ensures
