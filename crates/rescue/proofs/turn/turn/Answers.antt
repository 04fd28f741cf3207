-- `turn` meets its contract: what the rebuilt macroblock's answer says of the step, and what is stored where it is finished.
use Rattle.numbers.specs.Words.{◌≡◌}
use Rattle.lent.specs.Memory.{Memory, memory_of, packed, column_at}
use Rattle.macroblock.specs.Macroblock.{Finished, Step, finished, to_macroblock_called}
use Rattle.macroblock.specs.Rebuilt.{rebuilt_of}
use Rattle.choices.specs.Choices.{beside_of}
use Rattle.picture.specs.Picture.{planes_in}
use Rattle.picture.specs.TurnLaws.{Ends, column_is, turn_stopped, turn_done}
use Rattle.rescue.specs.RescueLaws.{rebuild_is, ends_rebuilt}
use Rattle.rescue.proofs.Turns.{not_done}
use Rattle.rescue.proofs.turn.turn.Goals as goal
use Rattle.rescue.proofs.turn.turn.Goals.{After-rebuild-m}

abbrev before : After-rebuild-m → Memory
before c = memory_of c.args.y.now c.args.u.now c.args.v.now c.args.columns.now c.args.modes.now c.args.strengths.now

abbrev step : After-rebuild-m → Step
step c =
    rebuilt_of c.args.first.now c.args.task.readers c.args.task.frame (record { top = column_at packed c.args.columns.now c.args.task.place.column; left = beside_of c.args.task.place.column c.args.task.left }) c.args.task.place (planes_in (before c))

answer : (c : After-rebuild-m) → record { answer = c.rebuild-m.result; planes = record { y = c.rebuild-m.new.y; u = c.rebuild-m.new.u; v = c.rebuild-m.new.v } } ≡ to_macroblock_called (planes_in (before c)) (step c)
answer c = rebuild_is _ _ _ _ _ _ _ c.rebuild-m.ensures (column_is _ _ c.read_column-found.ensures c.requires.room.columns) c.beside-left.ensures c.requires.legible c.requires.laid

ends : (c : After-rebuild-m) → (x : Finished) → step c ≡ finished x → Ends c.args.first.now c.requires.held.tokens (planes_in (before c)) x
ends c x e = ends_rebuilt _ c.requires.held.tokens _ _ _ _ _ c.requires.legible c.requires.laid (λ i. (c.type_inv.first i).fits) c.requires.held.valid x e

pub returns-in_default : goal.returns-in_default
returns-in_default c =
    let d = (goal.at.returns-in_default c).After-rebuild-m in
    turn_stopped _ _ _ (before d) (step d) (answer d) (not_done _ c.in_default.not-Ok)

pub returns : goal.returns
returns c =
    let d = (goal.at.returns c).After-rebuild-m in
    turn_done _ _ _ (before d) c.in-Ok.is c.requires.room c.write_column.ensures c.write_mode_record.ensures c.write_strength.ensures (step d) (answer d) (ends d)
