-- `each_below` meets its contract: what the loop holds is true of the modes passed.
use Rattle.numbers.specs.Words.{ℕ, arith, ◌≡◌, refl, ltb, get_or}
use Rattle.planes.proofs.Turns.{all_next}
use Rattle.planes.proofs.checks.each_below.Goals as goal

pub loop-k-init : goal.loop-k-init
loop-k-init c = (omega arith, refl)

pub loop-k-preserved : goal.loop-k-preserved
loop-k-preserved c = (omega arith, all_next (λ (i : ℕ). ltb (get_or c.args.modes.now i 0) c.args.limit) c.loop-k.k c.loop-k.invariant.1)

pub returns : goal.returns
returns c = let e : c.loop-k.k ≡ 16 = omega arith in rw e at c.loop-k.invariant.1
