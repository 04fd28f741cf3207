use Rattle.numbers.specs.Words.{not-false, not-true, w8, Fits, rules}
use Rattle.recode.specs.Copies.{ask_copies}
use Rattle.recode_frame.specs.ModeCopies.{skip_not, skip_read}
use Rattle.recode_frame.proofs.mode.copy_skip.Goals as goal

pub returns-then-not-a : goal.returns-then-not-a
returns-then-not-a c = skip_not c.args.a (not-true _ c.if-not-a.true)

pub returns : goal.returns
returns c =
    let f : Fits w8 c.args.a.skip_probability = search rules in
    skip_read c.args.a (not-false _ c.if-not-a.false) (ask_copies f.fits c.ask-b.ensures)
