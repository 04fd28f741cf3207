-- `copy` meets its contract: a row a turn.
use Rattle.numbers.specs.Words.{arith, ◌≡◌, sym, ◌∙◌}
use Rattle.deblock.specs.BlockLaws.{rows_none, rows_next, length_rows}
use Rattle.deblock.proofs.blocks.copy.Goals as goal

pub loop-i-init : goal.loop-i-init
loop-i-init c = (omega arith, sym (rows_none _ _ _ _ _ _ _))

pub overflow_mul-i : goal.overflow_mul-i
overflow_mul-i c = omega (arith, (c.requires c.loop-i.i (omega arith)).0)

pub overflow_add-at : goal.overflow_add-at
overflow_add-at c = omega (arith, (c.requires c.loop-i.i (omega arith)).0)

pub overflow_mul-i-in-loop-i : goal.overflow_mul-i-in-loop-i
overflow_mul-i-in-loop-i c = omega (arith, (c.requires c.loop-i.i (omega arith)).1)

pub overflow_add-start : goal.overflow_add-start
overflow_add-start c = omega (arith, (c.requires c.loop-i.i (omega arith)).1)

pub copy_row-requires : goal.copy_row-requires
copy_row-requires c =
    let room = c.requires c.loop-i.i (omega arith) in
    (rw (c.loop-i.invariant.1, length_rows) room.0, room.1)

pub loop-i-preserved : goal.loop-i-preserved
loop-i-preserved c = (omega arith, c.copy_row.ensures ∙ rw c.loop-i.invariant.1 (rows_next _ _ _ _ _ _ _ _))

pub shape_of-to : goal.shape_of-to
shape_of-to c = rw c.loop-i.invariant.1 (length_rows _ _ _ _ _ _ _ _)

pub returns : goal.returns
returns c = let e : c.loop-i.i ≡ c.args.rows = omega arith in rw e at c.loop-i.invariant.1
