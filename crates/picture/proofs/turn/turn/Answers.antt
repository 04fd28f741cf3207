-- `turn` meets its contract: what the macroblock's answer says of the step, and what is stored where it is finished.
use Rattle.numbers.specs.Words.{◌≡◌}
use Rattle.lent.specs.Memory.{Memory, memory_of, packed, column_at}
use Rattle.macroblock.specs.Macroblock.{reads_of, Finished, Step, finished, step_of, to_macroblock_called}
use Rattle.choices.specs.Choices.{beside_of}
use Rattle.picture.specs.Picture.{planes_in}
use Rattle.picture.specs.TurnLaws.{Ends, ends_of, call_is, call_reads, turn_stopped, turn_done}
use Rattle.picture.proofs.Answers.{not_done}
use Rattle.picture.proofs.turn.turn.Goals as goal
use Rattle.picture.proofs.turn.turn.Goals.{After-decode-read}

abbrev before : After-decode-read → Memory
before c = memory_of c.args.y.now c.args.u.now c.args.v.now c.args.columns.now c.args.modes.now c.args.strengths.now

abbrev step : After-decode-read → Step
step c =
    step_of c.args.first.now c.args.tokens.now c.args.task.readers c.args.task.frame c.args.table.now (record { top = column_at packed c.args.columns.now c.args.task.place.column; left = beside_of c.args.task.place.column c.args.task.left }) c.args.task.place (planes_in (before c))

answer : (c : After-decode-read) → record { answer = c.decode-read.result.outcome; planes = record { y = c.decode-read.new.y; u = c.decode-read.new.u; v = c.decode-read.new.v } } ≡ to_macroblock_called (planes_in (before c)) (step c)
answer c = call_is _ _ _ _ _ _ _ _ c.decode-read.ensures.0 c.around-near.ensures c.requires.ready c.requires.laid

counted : (c : After-decode-read) → c.decode-read.result.reads ≡ reads_of c.args.first.now c.args.tokens.now c.args.task.readers c.args.task.frame c.args.table.now (record { top = column_at packed c.args.columns.now c.args.task.place.column; left = beside_of c.args.task.place.column c.args.task.left })
counted c = call_reads _ _ _ _ _ _ _ _ c.decode-read.ensures.1 c.around-near.ensures c.requires.ready c.requires.laid

ends : (c : After-decode-read) → (x : Finished) → step c ≡ finished x → Ends c.args.first.now c.args.tokens.now (planes_in (before c)) x
ends c x e =
    ends_of _ _ _ _ _ _ _ _ c.requires.ready c.requires.laid
    (λ i. (c.type_inv.first i).fits)
    (λ i. (c.type_inv.tokens i).fits)
    (λ i. (c.type_inv.table i).fits) x e

pub returns-in_default : goal.returns-in_default
returns-in_default c =
    let d = (goal.at.returns-in_default c).After-decode-read in
    (turn_stopped _ _ _ (before d) (step d) (answer d) (not_done _ c.in_default.not-Ok), counted d)

pub returns : goal.returns
returns c =
    let d = (goal.at.returns c).After-decode-read in
    (turn_done _ _ _ (before d) c.in-Ok.is c.requires.room c.write_column.ensures c.write_mode_record.ensures c.write_strength.ensures (step d) (answer d) (ends d), counted d)
