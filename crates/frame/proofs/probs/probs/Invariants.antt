use Rattle.frame.proofs.Turns.{Going}
use Rattle.frame.proofs.probs.probs.Given as goal

abbrev pub invariant-loop-i : goal.invariant-loop-i
invariant-loop-i l = Going l.s l.initial.next l.i l.next l.table
