use Rattle.numbers.specs.Words.{◌≡◌, sym, ◌∙◌, true, Err, rules}
use Rattle.reader.specs.Reading.{run}
use Rattle.reader.specs.ReadingLaws.{Valid, valid_fact}
use Rattle.modes.specs.Modes.{small_modes_of, contexts_of}
use Rattle.modes.specs.ModesLaws.{above_fact, left_fact}
use Rattle.modes.specs.AnswersLaws.{small_reader, small_contexts, small_good, sixteen_missing, sixteen_read}
use Rattle.modes.proofs.small.small_modes.Goals as goal
use Rattle.modes.proofs.small.small_modes.Goals.{Else-not-contexts_fine}

-- what the tests showed
good : (c : Else-not-contexts_fine) → Valid c.args.s.now c.args.r
good c = valid_fact _ _ (sym c.valid.ensures ∙ c.if-not-valid.false)

fine : (c : Else-not-contexts_fine) → contexts_of c.args.top.now c.args.left.now ≡ true
fine c = sym c.contexts_fine.ensures ∙ c.if-not-contexts_fine.false

pub returns-then-not-valid : goal.returns-then-not-valid
returns-then-not-valid c = small_reader _ _ _ _ _ (sym c.valid.ensures ∙ c.if-not-valid.true)

pub returns-then-not-contexts_fine : goal.returns-then-not-contexts_fine
returns-then-not-contexts_fine c = small_contexts _ _ _ _ _ (sym c.contexts_fine.ensures ∙ c.if-not-contexts_fine.true)

pub sixteen-requires : goal.sixteen-requires
sixteen-requires c =
    let t = (goal.at.sixteen-requires c).Else-not-contexts_fine in
    record { valid = good t; modes = (above_fact c.args.top.now c.args.left.now (fine t), left_fact c.args.top.now c.args.left.now (fine t)) }

pub returns-in_err-read : goal.returns-in_err-read
returns-in_err-read c =
    let t = (goal.at.returns-in_err-read c).Else-not-contexts_fine in
    let e : c.from_residual.result ≡ Err c.in_err-read.field-0.0 = search rules in
    rw e (sixteen_missing (run (small_modes_of c.args.top.now c.args.left.now) c.args.s.now c.args.r) c.args.modes.now c.sixteen.ensures.0 c.in_err-read.was ∙ sym (small_good _ _ _ _ _ (good t) (fine t)))

pub returns : goal.returns
returns c =
    let t = (goal.at.returns c).Else-not-contexts_fine in
    sixteen_read (run (small_modes_of c.args.top.now c.args.left.now) c.args.s.now c.args.r) c.args.modes.now c.sixteen.ensures.0 c.in_ok-read.was ∙ sym (small_good _ _ _ _ _ (good t) (fine t))
