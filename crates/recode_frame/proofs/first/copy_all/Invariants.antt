use Rattle.recode_frame.specs.ModeCopies.{Marching}
use Rattle.recode_frame.proofs.first.copy_all.Given as goal

abbrev pub invariant-loop-k : goal.invariant-loop-k
invariant-loop-k l = Marching l.a l.wide l.blocks l.s l.initial.next l.initial.out l.next l.k l.tops l.left l.out
