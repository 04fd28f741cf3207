use Rattle.numbers.specs.Words.{◌<◌, ◌^◌, arith, ◌≡◌, Bool, ◌||◌, ℤ, pos, negsuc, lt_z, mag, round, back, w32, rules}
use Rattle.header.specs.Header.{entry, outside}
use Rattle.header.specs.HeaderLaws.{entries_out, entries_all, fine_none, fine_next}
use Rattle.header.proofs.entries.entries_fine.Goals as goal

-- the test as the machine makes it
read : (z : ℤ) {b : Bool} → mag z < 2 ^ 31 → lt_z (round w32 z) (negsuc 254) || lt_z (pos 255) (round w32 z) ≡ b → outside z ≡ b
read z m e = rw (back w32 m) at e

pub loop-x-init : goal.loop-x-init
loop-x-init c = fine_none _

pub returns-then-x : goal.returns-then-x
returns-then-x c = entries_out _ c.loop-x.x-index (omega arith) (read (entry c.args.h.now c.loop-x.x-index) (search rules) c.if-x.true)

pub loop-x-preserved : goal.loop-x-preserved
loop-x-preserved c = fine_next _ _ c.loop-x.invariant (read (entry c.args.h.now c.loop-x.x-index) (search rules) c.if-x.false)

pub returns : goal.returns
returns c = entries_all _ _ (omega arith) c.loop-x.invariant
