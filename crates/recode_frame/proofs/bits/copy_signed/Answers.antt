use Rattle.numbers.specs.Words.{arith, not-false, not-true}
use Rattle.recode.specs.Copies.{ask_copies}
use Rattle.recode_frame.specs.HeaderCopies.{signed_not, signed_given}
use Rattle.recode_frame.proofs.bits.copy_signed.Goals as goal

pub returns-then-not-given : goal.returns-then-not-given
returns-then-not-given c = signed_not c.args.n (ask_copies (omega arith) c.ask-given.ensures) (not-true _ c.if-not-given.true)

pub returns : goal.returns
returns c = signed_given c.args.n (ask_copies (omega arith) c.ask-given.ensures) (not-false _ c.if-not-given.false) c.copy_bits-size.ensures c.copy_bits.ensures
