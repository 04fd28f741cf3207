-- `add_mean` meets its contract, row by row: the plane is as long after each.
use Rattle.numbers.specs.Words.{arith, refl, ◌∙◌, ap, replicate, inside_read, any, called, w16}
use Rattle.planes.specs.Pieces.{mean_of}
use Rattle.planes.specs.PiecesLaws.{kept, rows_added, same_near}
use Rattle.planes.proofs.add.add_mean.Goals as goal

pub add_row-requires : goal.add_row-requires
add_row-requires c = record { at_in_bounds = omega (arith, c.requires); each = same_near (inside_read (called w16 c.mean-v.ensures.0 c.mean-v.ensures.1 tt)) }

pub add_row-requires-2 : goal.add_row-requires-2
add_row-requires-2 c =
    let one = kept _ _ _ refl c.add_row.ensures in
    record { at_in_bounds = omega (arith, c.requires, one); each = same_near (inside_read (called w16 c.mean-v.ensures.0 c.mean-v.ensures.1 tt)) }

pub add_row-requires-3 : goal.add_row-requires-3
add_row-requires-3 c =
    let two = kept _ _ _ (kept _ _ _ refl c.add_row.ensures) c.add_row-2.ensures in
    record { at_in_bounds = omega (arith, c.requires, two); each = same_near (inside_read (called w16 c.mean-v.ensures.0 c.mean-v.ensures.1 tt)) }

pub add_row-requires-4 : goal.add_row-requires-4
add_row-requires-4 c =
    let three = kept _ _ _ (kept _ _ _ (kept _ _ _ refl c.add_row.ensures) c.add_row-2.ensures) c.add_row-3.ensures in
    record { at_in_bounds = omega (arith, c.requires, three); each = same_near (inside_read (called w16 c.mean-v.ensures.0 c.mean-v.ensures.1 tt)) }

pub returns : goal.returns
returns c =
    let v = called w16 (c.mean-v.ensures.0 ∙ ap mean_of (any w16 c.ranges.dc).eq) c.mean-v.ensures.1 tt in
    let e = ap (replicate 4) v.eq in
    rows_added _ _ _ c.add_row.ensures c.add_row-2.ensures c.add_row-3.ensures c.add_row-4.ensures e e e e
