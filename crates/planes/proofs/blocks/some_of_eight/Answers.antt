-- `some_of_eight` meets its contract: one number of each block a turn, of which the last of the eight is one.
use Rattle.numbers.specs.Words.{◌+◌, arith, ◌≡◌, refl}
use Rattle.transform.specs.LanesLaws.{lane_below}
use Rattle.planes.specs.PiecesLaws.{looked_none, looked_next}
use Rattle.planes.proofs.blocks.some_of_eight.Goals as goal

pub loop-k-init : goal.loop-k-init
loop-k-init c = (omega arith, omega arith, looked_none refl)

pub overflow_mul-n : goal.overflow_mul-n
overflow_mul-n c = omega (arith, lane_below c.args.n (c.args.first + 7) c.loop-k.k (omega arith) (omega arith))

pub overflow_add-n : goal.overflow_add-n
overflow_add-n c = omega (arith, lane_below c.args.n (c.args.first + 7) c.loop-k.k (omega arith) (omega arith))

pub join-requires : goal.join-requires
join-requires c = (omega (arith, lane_below c.args.n (c.args.first + 7) c.loop-k.k (omega arith) (omega arith), c.requires.0), c.loop-k.invariant.2.long)

pub loop-k-preserved : goal.loop-k-preserved
loop-k-preserved c = (omega arith, omega arith, looked_next c.join.ensures c.loop-k.invariant.2)

pub returns : goal.returns
returns c = let e : c.loop-k.k ≡ 16 = omega arith in rw e at c.loop-k.invariant.2
