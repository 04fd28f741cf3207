-- `copy_row` meets its contract: four stores are a copy of four.
use Rattle.numbers.specs.Words.{arith, length-set}
use Rattle.planes.specs.PiecesLaws.{copied_four}
use Rattle.planes.proofs.put.copy_row.Goals as goal

pub bounds-p-at-2 : goal.bounds-p-at-2
bounds-p-at-2 c = simp length-set (omega arith)

pub bounds-p-at-3 : goal.bounds-p-at-3
bounds-p-at-3 c = simp length-set (omega arith)

pub bounds-p-at-4 : goal.bounds-p-at-4
bounds-p-at-4 c = simp length-set (omega arith)

pub shape_of-p : goal.shape_of-p
shape_of-p c = simp length-set

pub returns : goal.returns
returns c = copied_four _ _ c.args.b.now c.args.from
