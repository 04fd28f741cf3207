use Rattle.numbers.specs.Words.{arith, ◌≡◌, refl, lit<, w16}
use Rattle.residual.specs.GroupsLaws.{zeros_next}
use Rattle.residual.proofs.Zero.{zero_is}
use Rattle.residual.proofs.quick.zeros.Goals as goal

pub loop-i-init : goal.loop-i-init
loop-i-init c = (omega arith, refl)

pub loop-i-preserved : goal.loop-i-preserved
loop-i-preserved c = (omega arith, zeros_next c.args.flat.now c.args.at c.loop-i.i c.loop-i.invariant.1 (zero_is w16 _ (record { sfits = c.all-1.given }) (record { sfits = lit< tt })))

pub returns : goal.returns
returns c = let e : c.loop-i.i ≡ c.args.n = omega arith in rw e at c.loop-i.invariant.1
