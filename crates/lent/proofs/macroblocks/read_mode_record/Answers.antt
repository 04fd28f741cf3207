use Rattle.numbers.specs.Words.{ap}
use Rattle.lent.specs.Memory.{FoundRecord, kinds_in, modes_in}
use Rattle.lent.proofs.macroblocks.read_mode_record.Goals as goal

pub returns : goal.returns
returns c = ap (λ (r : FoundRecord). record { answer = r.answer; kinds = kinds_in r.bytes; modes = modes_in r.bytes }) c.read-answer.ensures
