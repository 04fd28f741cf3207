use Rattle.numbers.specs.Words.{length, Filled}
use Rattle.rescue.specs.Rescue.{mark_of_of}
use Rattle.rescue.proofs.marks.mark.Given as goal

abbrev pub invariant-loop-i : goal.invariant-loop-i
invariant-loop-i l = Filled l.marks (length l.initial.marks) (mark_of_of l.whole l.saved) l.i
