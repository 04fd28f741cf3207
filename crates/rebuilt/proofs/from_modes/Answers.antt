-- `from_modes` meets its contract: modes, and then a residual of zeros.
use Rattle.numbers.specs.Words.{◌≡◌, ◌∙◌, ap}
use Rattle.reader.specs.Reading.{ReadOf, run}
use Rattle.modes.specs.declared.answers.Kinds.{Kinds}
use Rattle.modes.specs.Modes.{modes_of, macroblock_of}
use Rattle.modes.specs.AnswersLaws.{stage_given, read, read_ended}
use Rattle.macroblock.specs.Macroblock.{planes_of}
use Rattle.macroblock.specs.RebuiltLaws.{bare_missing, bare_done, bare_given}
use Rattle.rebuilt.proofs.from_modes.Goals as goal
use Rattle.rebuilt.proofs.from_modes.Goals.{After-read_modes-read}

-- what the modes' answer says of the grammar
is : (c : After-read_modes-read) → run (modes_of c.args.frame.announced c.args.around.top.modes c.args.around.left.modes) c.args.first.now c.args.readers.first ≡ stage_given c.read_modes-read.result.answer c.read_modes-read.new.modes
is c = read _ _ _ _ _ _ c.requires.legible.reader c.requires.legible.contexts c.read_modes-read.ensures.0

pub returns-in_default : goal.returns-in_default
returns-in_default c =
    bare_missing _ _ _ _ _ _ (is (goal.at.returns-in_default c).After-read_modes-read ∙ ap (λ (x : ReadOf Kinds). stage_given x c.read_modes-read.new.modes) c.in_default.is) c.nothing.ensures

pub returns : goal.returns
returns c =
    let q = c.requires.legible in
    let e = read_ended _ _ _ _ _ _ q.sound.announced q.reader q.contexts (λ i. (c.type_inv.first i).fits) c.read_modes-read.ensures.0 c.in-Ok.is in
    let g = is (goal.at.returns c).After-read_modes-read ∙ ap (λ (x : ReadOf Kinds). stage_given x c.read_modes-read.new.modes) c.in-Ok.is in
    c.complete.ensures
    ∙ bare_done c.args.frame c.args.place (planes_of c.args.y.now c.args.u.now c.args.v.now) (macroblock_of c.in-Ok.kinds c.read_modes-read.new.modes) c.in-Ok.next c.args.readers.token q.sound c.requires.laid e.value
    ∙ bare_given _ _ _ _ _ _ g
