use Rattle.modes.proofs.Steps.{Coding}
use Rattle.modes.proofs.quick.sixteen.Given as goal

abbrev pub invariant-loop-i : goal.invariant-loop-i
invariant-loop-i l = Coding l.s l.top l.left l.initial.next l.i l.next l.modes
