use Rattle.numbers.specs.Words.{arith}
use Rattle.recode.specs.Copies.{ask_copies}
use Rattle.recode.specs.TokenCopies.{taking_start}
use Rattle.recode_frame.specs.HeaderCopies.{bits_next, bits_end}
use Rattle.recode_frame.proofs.bits.copy_bits.Goals as goal

pub loop-i-init : goal.loop-i-init
loop-i-init c = taking_start _ _ _ _

pub loop-i-preserved : goal.loop-i-preserved
loop-i-preserved c = bits_next c.loop-i.invariant c.loop-i-test.true (ask_copies (omega arith) c.ask-a.ensures) c.ask-a.auto.out

pub shape_of-out : goal.shape_of-out
shape_of-out c = c.loop-i.invariant.long

pub returns : goal.returns
returns c = bits_end c.loop-i.invariant c.loop-i-test.false
