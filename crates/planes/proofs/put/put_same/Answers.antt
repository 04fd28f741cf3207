-- `put_same` meets its contract: a row a turn.
use Rattle.numbers.specs.Words.{arith, ◌≡◌, refl, sym}
use Rattle.planes.specs.PaintLaws.{rows_none, length_rows}
use Rattle.planes.specs.PiecesLaws.{row_room, row_turn}
use Rattle.planes.proofs.put.put_same.Goals as goal

pub loop-j-init : goal.loop-j-init
loop-j-init c = (omega arith, sym (rows_none _ _ _ _ _ _))

pub put_row-requires : goal.put_row-requires
put_row-requires c = record { size = c.requires.size; size_in_bounds = row_room _ _ _ _ _ _ c.loop-j.j c.loop-j.invariant.1 c.place.ensures c.requires.square (omega arith) }

pub loop-j-preserved : goal.loop-j-preserved
loop-j-preserved c = (omega arith, row_turn _ _ _ _ _ _ c.loop-j.j c.loop-j.invariant.1 c.place.ensures c.put_row.ensures (λ k h. refl))

pub shape_of-p : goal.shape_of-p
shape_of-p c = rw c.loop-j.invariant.1 (length_rows _ _ _ _ _ _ _)

pub returns : goal.returns
returns c = let e : c.loop-j.j ≡ c.args.size = omega arith in rw e at c.loop-j.invariant.1
