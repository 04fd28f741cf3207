use Rattle.numbers.specs.Words.{ap}
use Rattle.reader.specs.Reading.{ReadOf}
use Rattle.modes.specs.declared.answers.Kinds.{Kinds}
use Rattle.modes.specs.AnswersLaws.{stage_given}
use Rattle.picture.specs.TurnLaws.{column_is}
use Rattle.recode.specs.TurnCopies.{turn_none, turn_done}
use Rattle.recode.proofs.turn.turn.Goals as goal

pub returns-in_default : goal.returns-in_default
returns-in_default c = turn_none c.args.first.now c.args.tokens.now c.args.table.now c.args.task c.args.columns.now c.args.out.now c.read_column-found.result.context c.beside-left.result (λ h. column_is _ _ c.read_column-found.ensures h) c.beside-left.ensures _ c.read_modes-read.ensures.0 (λ l. ap (λ (x : ReadOf Kinds). stage_given x l) c.in_default.is)

pub tokens_turned-requires : goal.tokens_turned-requires
tokens_turned-requires c = c.requires

pub returns : goal.returns
returns c = turn_done c.args.first.now c.args.tokens.now c.args.table.now c.args.task c.args.columns.now c.args.out.now c.read_column-found.result.context c.beside-left.result (λ h. column_is _ _ c.read_column-found.ensures h) c.beside-left.ensures _ c.read_modes-read.ensures.0 c.in-Ok.is c.tokens_turned.ensures
