use Rattle.recode_frame.specs.ModeCopies.{Sixteen}
use Rattle.recode_frame.proofs.mode.copy_sixteen.Given as goal

abbrev pub invariant-loop-i : goal.invariant-loop-i
invariant-loop-i l = Sixteen l.s l.top l.left l.initial.next l.initial.out l.next l.i l.modes l.out
