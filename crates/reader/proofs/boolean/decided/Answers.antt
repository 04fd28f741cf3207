use Rattle.numbers.specs.Words.{arith}
use Rattle.reader.specs.ReadingLaws.{decided_edge}
use Rattle.reader.proofs.boolean.decided.Goals as goal

pub returns : goal.returns
returns c = decided_edge _ _ (omega arith) (omega arith) (omega arith)
