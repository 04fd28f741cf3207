-- `sum` meets its contract: what the loop holds is the sum of the samples passed.
use Rattle.numbers.specs.Words.{arith, ◌≡◌, length}
use Rattle.try_singles.specs.Cases.{sum_none, sum_next}
use Rattle.try_singles.proofs.sum.Goals as goal

pub loop-x-init : goal.loop-x-init
loop-x-init c = (omega arith, sum_none _)

pub loop-x-preserved : goal.loop-x-preserved
loop-x-preserved c = (omega arith, rw c.from.ensures (sum_next _ _ c.loop-x.invariant.1))

pub returns : goal.returns
returns c = let e : c.loop-x.x-index ≡ length c.args.p.now = omega arith in rw e at c.loop-x.invariant.1
