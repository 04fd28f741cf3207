use Rattle.picture.specs.TurnLaws.{column_is}
use Rattle.picture.proofs.turn.around.Goals as goal

pub returns : goal.returns
returns c = λ i. record { top = column_is _ _ c.read_column-found.ensures c.requires i; left = c.beside.ensures i }
