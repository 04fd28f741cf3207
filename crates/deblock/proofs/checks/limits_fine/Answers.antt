-- `limits_fine` meets its contract: what the loop holds is true of the records passed.
use Rattle.numbers.specs.Words.{arith, ◌≡◌, refl, rules}
use Rattle.lent.specs.Memory.{records_in, strength_width}
use Rattle.lent.specs.MacroblocksLaws.{strength_is}
use Rattle.deblock.specs.ChecksLaws.{limits_next}
use Rattle.deblock.specs.Deblock.{limits_of}
use Rattle.deblock.proofs.checks.limits_fine.Goals as goal

pub loop-k-init : goal.loop-k-init
loop-k-init c = (omega arith, refl, refl)

pub loop-k-preserved : goal.loop-k-preserved
loop-k-preserved c = (omega arith, refl, limits_next c.args.strengths.now c.loop-k.k (strength_is c.args.strengths.now c.loop-k.k c.read_strength-found.ensures (search rules)) c.loop-k.invariant.2)

pub returns : goal.returns
unfolding limits_of
returns c = let e : c.loop-k.k ≡ records_in strength_width c.args.strengths.now = omega arith in rw e at c.loop-k.invariant.2
