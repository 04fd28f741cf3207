-- `put` meets its contract: a sample a turn.
use Rattle.numbers.specs.Words.{arith, ◌≡◌, sym, placed_none, placed_next, length_placed}
use Rattle.planes.proofs.put.put.Goals as goal

pub loop-k-init : goal.loop-k-init
loop-k-init c = (omega arith, sym (placed_none _ _ _))

pub bounds-p-at : goal.bounds-p-at
bounds-p-at c = rw (c.loop-k.invariant.1, length_placed) (omega arith)

pub loop-k-preserved : goal.loop-k-preserved
loop-k-preserved c = (omega arith, rw c.loop-k.invariant.1 (placed_next _ _ _ _))

pub shape_of-p : goal.shape_of-p
shape_of-p c = rw c.loop-k.invariant.1 (length_placed _ _ _ _)

pub returns : goal.returns
returns c = let e : c.loop-k.k ≡ c.args.n = omega arith in rw e at c.loop-k.invariant.1
