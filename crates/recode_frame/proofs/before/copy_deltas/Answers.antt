use Rattle.numbers.specs.Words.{arith, not-false, not-true}
use Rattle.frame.specs.Header.{no_deltas_of, deltas_update_of}
use Rattle.recode.specs.Copies.{ask_copies}
use Rattle.recode_frame.specs.HeaderCopies.{copied_when, copied_not, deltas_kept, deltas_given}
use Rattle.recode_frame.proofs.before.copy_deltas.Goals as goal

pub returns-then-not-on : goal.returns-then-not-on
returns-then-not-on c = copied_not c.args.on no_deltas_of deltas_update_of (not-true _ c.if-not-on.true-raw)

pub returns-then-not-update : goal.returns-then-not-update
returns-then-not-update c = copied_when c.args.on no_deltas_of deltas_update_of (not-false _ c.if-not-on.false-raw) (deltas_kept (ask_copies (omega arith) c.ask-update.ensures) (not-true _ c.if-not-update.true))

pub returns : goal.returns
returns c = copied_when c.args.on no_deltas_of deltas_update_of (not-false _ c.if-not-on.false-raw) (deltas_given (ask_copies (omega arith) c.ask-update.ensures) (not-false _ c.if-not-update.false) c.copy_four-frames.ensures c.copy_four.ensures)
