use Rattle.reader.specs.ReadingLaws.{Valid}
use Rattle.try_counted.proofs.leaves.Given as goal

abbrev pub invariant-loop-n : goal.invariant-loop-n
invariant-loop-n l = Valid l.s l.next
