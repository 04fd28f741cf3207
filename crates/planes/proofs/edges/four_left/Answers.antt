-- `four_left` meets its contract: outside, or a sample of each of four rows.
use Rattle.numbers.specs.Words.{◌+◌, ◌-◌, one-mul, arith, refl, ◌∷≡◌}
use Rattle.planes.specs.Paint.{four_left_of}
use Rattle.planes.specs.PaintLaws.{near_side, near_at}
use Rattle.planes.specs.Places.{left_at}
use Rattle.planes.proofs.edges.four_left.Goals as goal

pub returns-then-s-eq0 : goal.returns-then-s-eq0
unfolding four_left_of
returns-then-s-eq0 c = near_side _ _ _ _ (omega arith) c.if-s-eq0.true ∷≡ near_side _ _ _ _ (omega arith) c.if-s-eq0.true ∷≡ near_side _ _ _ _ (omega arith) c.if-s-eq0.true ∷≡ near_side _ _ _ _ (omega arith) c.if-s-eq0.true ∷≡ refl

pub returns : goal.returns
unfolding four_left_of
returns c =
    let e = left_at _ c.requires (omega arith) in
    near_at _ _ (c.args.s.x - 1) (c.args.s.y + 0) (omega arith) (omega arith) (omega (arith, e 0))
    ∷≡ near_at _ _ (c.args.s.x - 1) (c.args.s.y + 1) (omega arith) (omega arith) (omega (arith, e 1, one-mul c.args.w))
    ∷≡ near_at _ _ (c.args.s.x - 1) (c.args.s.y + 2) (omega arith) (omega arith) (e 2)
    ∷≡ near_at _ _ (c.args.s.x - 1) (c.args.s.y + 3) (omega arith) (omega arith) (e 3)
    ∷≡ refl
