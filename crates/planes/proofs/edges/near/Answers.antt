-- `near` meets its contract: above the plane, left of it, and in it.
use Rattle.numbers.specs.Words.{◌-◌, arith}
use Rattle.planes.specs.PaintLaws.{near_top, near_side, near_at}
use Rattle.planes.specs.Places.{reach_at}
use Rattle.planes.proofs.edges.near.Goals as goal

pub returns-then-y-eq0 : goal.returns-then-y-eq0
returns-then-y-eq0 c = near_top _ _ _ _ c.if-y-eq0.true

pub returns-then-x-eq0 : goal.returns-then-x-eq0
returns-then-x-eq0 c = near_side _ _ _ _ (omega arith) c.if-x-eq0.true

pub bounds-p-place : goal.bounds-p-place
bounds-p-place c = rw c.place.ensures (reach_at c.requires (omega arith) (omega arith))

pub returns : goal.returns
returns c = near_at _ _ (c.args.x - 1) (c.args.y - 1) (omega arith) (omega arith) c.place.ensures
