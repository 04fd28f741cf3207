use Rattle.modes.proofs.Careful.{Going}
use Rattle.modes.proofs.small.sixteen.Given as goal

abbrev pub invariant-loop-i : goal.invariant-loop-i
invariant-loop-i l = Going l.s l.top l.left l.initial.t l.i l.reads l.t l.modes
