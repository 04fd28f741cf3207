-- `first_left` meets its contract: the array is filled, place by place.
use Rattle.numbers.specs.Words.{arith, ◌≡◌, sym}
use Rattle.planes.specs.PaintLaws.{first_none, first_next}
use Rattle.planes.specs.Places.{reach_left}
use Rattle.planes.proofs.edges.first_left.Goals as goal

pub loop-k-init : goal.loop-k-init
loop-k-init c = (omega arith, sym (first_none _))

pub near-requires : goal.near-requires
near-requires c = reach_left c.requires.square (omega arith)

pub loop-k-preserved : goal.loop-k-preserved
loop-k-preserved c = (omega arith, rw (c.near.ensures, c.loop-k.invariant.1) (first_next _ _))

pub returns : goal.returns
returns c = let e : c.loop-k.k ≡ c.args.size = omega arith in rw e at c.loop-k.invariant.1
