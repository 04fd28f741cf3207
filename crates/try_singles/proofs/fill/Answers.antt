-- `fill` meets its contract: the plane is filled, place by place.
use Rattle.numbers.specs.Words.{ℕ, ◌%◌, arith, refl, ap, filled_none, filled_next, filled_all}
use Rattle.try_singles.specs.Cases.{after_none, after_next}
use Rattle.try_singles.proofs.fill.Goals as goal

pub loop-x-init : goal.loop-x-init
loop-x-init c = (c.requires, after_none _, filled_none _ _ _ refl)

pub loop-x-preserved : goal.loop-x-preserved
loop-x-preserved c =
    let e = after_next c.args.seed c.loop-x.x-index c.loop-x.invariant.1 in
    (omega arith, e, filled_next _ (omega arith) (ap (λ (x : ℕ). x % 256) e) c.loop-x.invariant.2)

pub returns : goal.returns
returns c = filled_all (omega arith) c.loop-x.invariant.2
