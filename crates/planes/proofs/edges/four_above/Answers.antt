-- `four_above` meets its contract: outside, or four samples of the row above.
use Rattle.numbers.specs.Words.{◌+◌, ◌-◌, arith, refl, ◌∷≡◌}
use Rattle.planes.specs.Paint.{four_above_of}
use Rattle.planes.specs.PaintLaws.{near_top, near_at}
use Rattle.planes.specs.Places.{above_at}
use Rattle.planes.proofs.edges.four_above.Goals as goal

pub returns-then-s-eq0 : goal.returns-then-s-eq0
unfolding four_above_of
returns-then-s-eq0 c = near_top _ _ _ _ c.if-s-eq0.true ∷≡ near_top _ _ _ _ c.if-s-eq0.true ∷≡ near_top _ _ _ _ c.if-s-eq0.true ∷≡ near_top _ _ _ _ c.if-s-eq0.true ∷≡ refl

pub overflow_sub-at : goal.overflow_sub-at
overflow_sub-at c = (above_at _ c.requires (omega arith)).0

pub bounds-p-at : goal.bounds-p-at
bounds-p-at c = omega (arith, above_at _ c.requires (omega arith))

pub bounds-p-at-2 : goal.bounds-p-at-2
bounds-p-at-2 c = omega (arith, above_at _ c.requires (omega arith))

pub bounds-p-at-3 : goal.bounds-p-at-3
bounds-p-at-3 c = omega (arith, above_at _ c.requires (omega arith))

pub bounds-p-at-4 : goal.bounds-p-at-4
bounds-p-at-4 c = omega (arith, above_at _ c.requires (omega arith))

pub returns : goal.returns
unfolding four_above_of
returns c =
    let e = above_at _ c.requires (omega arith) in
    near_at _ _ (c.args.s.x + 0) (c.args.s.y - 1) (omega arith) (omega arith) (omega (arith, e))
    ∷≡ near_at _ _ (c.args.s.x + 1) (c.args.s.y - 1) (omega arith) (omega arith) (omega (arith, e))
    ∷≡ near_at _ _ (c.args.s.x + 2) (c.args.s.y - 1) (omega arith) (omega arith) (omega (arith, e))
    ∷≡ near_at _ _ (c.args.s.x + 3) (c.args.s.y - 1) (omega arith) (omega arith) (omega (arith, e))
    ∷≡ refl
