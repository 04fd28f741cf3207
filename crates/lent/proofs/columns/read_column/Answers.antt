use Rattle.numbers.specs.Words.{ap}
use Rattle.lent.specs.Memory.{FoundRecord, packed, context_in}
use Rattle.lent.proofs.columns.read_column.Goals as goal

pub returns : goal.returns
returns c = rw c.unpack.ensures (ap (λ (r : FoundRecord). record { answer = r.answer; context = context_in packed r.bytes }) c.read-answer.ensures)
