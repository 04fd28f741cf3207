-- `mark` meets its contract: a flag a turn.
use Rattle.numbers.specs.Words.{◌^◌, ◌<◌, arith, ◌≡◌, false, not, eqb, lit<, eqb-true, not-false, get_or, ℤ, pos, mag, same_bits, w16, hbits, of_z}
use Rattle.planes.specs.PiecesLaws.{marked_none, marked_next}
use Rattle.planes.proofs.blocks.mark.Goals as goal

-- what the test of a turn says
zero : (z : ℤ) → mag z < 2 ^ hbits w16 → not (eqb (of_z w16 z) 0) ≡ false → z ≡ pos 0
zero z f e = same_bits w16 (record { sfits = f }) (record { sfits = lit< tt }) (eqb-true (of_z w16 z) 0 (not-false _ e))

pub loop-i-init : goal.loop-i-init
loop-i-init c = (omega arith, marked_none c.requires.1)

pub loop-i-preserved : goal.loop-i-preserved
loop-i-preserved c = (omega arith, marked_next (omega arith) (zero (get_or c.args.some c.loop-i.i (pos 0)) c.coded-1.given) c.loop-i.invariant.1)

pub returns : goal.returns
returns c = let e : c.loop-i.i ≡ 8 = omega arith in rw e at c.loop-i.invariant.1
