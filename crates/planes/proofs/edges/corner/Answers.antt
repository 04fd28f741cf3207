-- `corner` meets its contract: above the plane, left of it, and in it.
use Rattle.numbers.specs.Words.{◌-◌, arith}
use Rattle.planes.specs.PaintLaws.{near_top, near_side, near_at}
use Rattle.planes.specs.Places.{lies_over, above_at}
use Rattle.planes.proofs.edges.corner.Goals as goal

pub returns-then-s-eq0 : goal.returns-then-s-eq0
returns-then-s-eq0 c = near_top _ _ _ _ c.if-s-eq0.true

pub returns-then-s-eq0-2 : goal.returns-then-s-eq0-2
returns-then-s-eq0-2 c = near_side _ _ _ _ (omega arith) c.if-s-eq0-2.true

pub overflow_sub-at : goal.overflow_sub-at
overflow_sub-at c = (above_at _ (lies_over c.requires) (omega arith)).0

pub overflow_sub-at-2 : goal.overflow_sub-at-2
overflow_sub-at-2 c = omega (arith, above_at _ (lies_over c.requires) (omega arith))

pub bounds-p-at : goal.bounds-p-at
bounds-p-at c = omega (arith, above_at _ (lies_over c.requires) (omega arith))

pub returns : goal.returns
returns c = near_at _ _ (c.args.s.x - 1) (c.args.s.y - 1) (omega arith) (omega arith) (omega (arith, above_at _ (lies_over c.requires) (omega arith)))
