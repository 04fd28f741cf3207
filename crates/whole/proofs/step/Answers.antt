-- `step` meets its contract: modes, and then tokens.
use Rattle.numbers.specs.Words.{◌≡◌, refl, ◌∙◌, ap}
use Rattle.reader.specs.Reading.{ReadOf, run, count}
use Rattle.modes.specs.declared.answers.Kinds.{Kinds}
use Rattle.modes.specs.Modes.{modes_of}
use Rattle.modes.specs.AnswersLaws.{stage_given, read, read_ended}
use Rattle.modes.specs.CountsLaws.{reads_good}
use Rattle.macroblock.specs.CountsLaws.{reads_no_modes, reads_both}
use Rattle.macroblock.specs.MacroblockLaws.{whole_missing, whole_tokens}
use Rattle.whole.proofs.step.Goals as goal
use Rattle.whole.proofs.step.Goals.{After-read_modes-read}

-- what the modes' answer says of the grammar, and its count
is : (c : After-read_modes-read) → run (modes_of c.args.frame.announced c.args.around.top.modes c.args.around.left.modes) c.args.first.now c.args.readers.first ≡ stage_given c.read_modes-read.result.answer c.read_modes-read.new.modes
is c = read _ _ _ _ _ _ c.requires.ready.reader c.requires.ready.contexts c.read_modes-read.ensures.0

counted : (c : After-read_modes-read) → c.read_modes-read.result.reads ≡ count (modes_of c.args.frame.announced c.args.around.top.modes c.args.around.left.modes) c.args.first.now c.args.readers.first
counted c = c.read_modes-read.ensures.1 ∙ reads_good _ _ _ _ _ c.requires.ready.reader c.requires.ready.contexts

pub returns-in_default : goal.returns-in_default
returns-in_default c =
    let t = (goal.at.returns-in_default c).After-read_modes-read in
    let g = is t ∙ ap (λ (x : ReadOf Kinds). stage_given x c.read_modes-read.new.modes) c.in_default.is in
    (whole_missing _ _ _ _ _ _ _ _ g c.stopped.ensures.0, c.stopped.ensures.1 ∙ reads_no_modes _ _ _ _ _ _ g (counted t))

pub with_tokens-requires : goal.with_tokens-requires
with_tokens-requires c =
    let e = read_ended _ _ _ _ _ _ c.requires.ready.sound.announced c.requires.ready.reader c.requires.ready.contexts (λ i. (c.type_inv.first i).fits) c.read_modes-read.ensures.0 c.in-Ok.is in
    let q = c.requires.ready in
    record { tokens = record { token = q.token; size = q.size; top = q.top; left = q.left; sound = q.sound }; in_range = e.value; laid = c.requires.laid }

pub returns : goal.returns
returns c =
    let t = (goal.at.returns c).After-read_modes-read in
    let g = is t ∙ ap (λ (x : ReadOf Kinds). stage_given x c.read_modes-read.new.modes) c.in-Ok.is in
    (c.with_tokens.ensures.0 ∙ whole_tokens _ _ _ _ _ _ _ _ g, c.with_tokens.ensures.1 ∙ reads_both _ _ _ _ _ _ g (counted t) refl)
