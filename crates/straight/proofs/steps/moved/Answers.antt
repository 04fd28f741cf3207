-- `moved` meets its contract.
use Rattle.numbers.specs.Words.{refl, ◌∙◌, ap, pos, any, w8}
use Rattle.filter.specs.Kernel.{moved_of}
use Rattle.straight.specs.BytesLaws.{eight_moved, same_sides}
use Rattle.straight.proofs.steps.moved.Goals as goal

pub returns : goal.returns
returns c =
    eight_moved c.args.e.now (pos 0) _ _ _ _ (pos 0)
    c.still.ensures c.still-2.ensures c.raised.ensures c.raised-2.ensures
    c.taken.ensures c.taken-2.ensures c.still-3.ensures c.still-4.ensures
    ∙ ap (moved_of c.args.e.now) (same_sides refl (any w8 c.ranges.next).eq (any w8 c.ranges.p0).eq (any w8 c.ranges.q0).eq)
