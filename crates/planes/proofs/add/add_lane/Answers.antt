-- `add_lane` meets its contract, row by row: the plane is as long after each.
use Rattle.numbers.specs.Words.{arith, refl}
use Rattle.planes.specs.PiecesLaws.{kept, rows_added, lane_near}
use Rattle.planes.proofs.add.add_lane.Goals as goal

pub add_row-requires : goal.add_row-requires
add_row-requires c = record { at_in_bounds = omega (arith, c.requires.block); each = rw c.lane_row.ensures (lane_near _ _ c.requires.each) }

pub add_row-requires-2 : goal.add_row-requires-2
add_row-requires-2 c =
    let one = kept _ _ _ refl c.add_row.ensures in
    record { at_in_bounds = omega (arith, c.requires.block, one); each = rw c.lane_row-2.ensures (lane_near _ _ c.requires.each) }

pub add_row-requires-3 : goal.add_row-requires-3
add_row-requires-3 c =
    let two = kept _ _ _ (kept _ _ _ refl c.add_row.ensures) c.add_row-2.ensures in
    record { at_in_bounds = omega (arith, c.requires.block, two); each = rw c.lane_row-3.ensures (lane_near _ _ c.requires.each) }

pub add_row-requires-4 : goal.add_row-requires-4
add_row-requires-4 c =
    let three = kept _ _ _ (kept _ _ _ (kept _ _ _ refl c.add_row.ensures) c.add_row-2.ensures) c.add_row-3.ensures in
    record { at_in_bounds = omega (arith, c.requires.block, three); each = rw c.lane_row-4.ensures (lane_near _ _ c.requires.each) }

pub returns : goal.returns
returns c =
    rows_added _ _ _ c.add_row.ensures c.add_row-2.ensures c.add_row-3.ensures c.add_row-4.ensures
    c.lane_row.ensures c.lane_row-2.ensures c.lane_row-3.ensures c.lane_row-4.ensures
