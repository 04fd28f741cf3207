use Rattle.reader.proofs.Turns.{Going}
use Rattle.reader.proofs.extra.read_extra.Given as goal

abbrev pub invariant-loop-i : goal.invariant-loop-i
invariant-loop-i l = Going l.s l.probs l.initial.next l.next l.value l.i
