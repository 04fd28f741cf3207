use Rattle.numbers.specs.Words.{ap}
use Rattle.lent.specs.Memory.{FoundRecord, strength_in, segment_in, small_in}
use Rattle.lent.proofs.macroblocks.read_strength.Goals as goal

pub returns : goal.returns
returns c = ap (λ (r : FoundRecord). record { answer = r.answer; strength = strength_in r.bytes; segment = segment_in r.bytes; small = small_in r.bytes }) c.read-answer.ensures
