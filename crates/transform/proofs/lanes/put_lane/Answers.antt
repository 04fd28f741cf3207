-- `put_lane` meets its contract: a number a turn.
use Rattle.numbers.specs.Words.{arith, ◌≡◌, sym, [], ◌∷◌, stored_none, stored_next, is, shr, v, known, any, w16}
use Rattle.transform.proofs.lanes.put_lane.Goals as goal

pub loop-k-init : goal.loop-k-init
loop-k-init c = (omega arith, sym (stored_none _ _ _))

pub loop-k-preserved : goal.loop-k-preserved
loop-k-preserved c = (omega arith, rw (is w16 (known (any w16 (record { sfits = c.t-1.given })) ∷ []) (shr (v 0) 3) tt, c.loop-k.invariant.1) (stored_next _ _ _ _))

pub returns : goal.returns
returns c = let e : c.loop-k.k ≡ 16 = omega arith in rw e at c.loop-k.invariant.1
