use Rattle.numbers.specs.Words.{ℕ, ap, List, get_or}
use Rattle.recode_frame.specs.HeaderCopies.{probing_start, probing_next, probing_end}
use Rattle.recode_frame.proofs.after.copy_probs.Goals as goal

pub loop-chance-init : goal.loop-chance-init
loop-chance-init c = probing_start _ _ _

pub loop-chance-preserved : goal.loop-chance-preserved
loop-chance-preserved c = probing_next c.loop-chance.invariant c.loop-chance-test.true (ap (λ (l : List ℕ). get_or l c.loop-chance.chance-index 0) c.updates-chances.ensures) c.copy_byte-next.ensures c.copy_byte-next.auto.out

pub shape_of-out : goal.shape_of-out
shape_of-out c = c.loop-chance.invariant.long

pub returns : goal.returns
returns c = probing_end c.loop-chance.invariant c.loop-chance-test.false
