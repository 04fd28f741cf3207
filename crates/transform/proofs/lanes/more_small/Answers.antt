-- `more_small` meets its contract: one more a turn.
use Rattle.numbers.specs.Words.{◌+◌, add_assoc, add-zero, arith, ◌≡◌, pos, negsuc, back, w16}
use Rattle.transform.specs.LanesLaws.{within_next}
use Rattle.transform.proofs.lanes.more_small.Goals as goal

pub loop-k-init : goal.loop-k-init
loop-k-init c = (omega arith, rw add-zero c.requires.before_value)

pub loop-k-preserved : goal.loop-k-preserved
loop-k-preserved c = (omega arith, rw (← add_assoc) (within_next (negsuc 2047) (pos 2047) c.args.c.now (c.args.from + c.loop-k.k) (back w16 c.x-1.given) c.loop-k.invariant.1))

pub returns : goal.returns
returns c = let e : c.loop-k.k ≡ 64 = omega arith in rw e at c.loop-k.invariant.1
