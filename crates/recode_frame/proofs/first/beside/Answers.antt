use Rattle.recode_frame.specs.ModeCopies.{left_on}
use Rattle.recode_frame.proofs.first.beside.Goals as goal

pub returns : goal.returns
returns c = left_on c.args.column c.args.left c.if-column-eq0.false
