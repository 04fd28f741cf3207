use Rattle.numbers.specs.Words.{◌-◌}
use Rattle.recode_frame.specs.ModeCopies.{Walking}
use Rattle.recode_frame.proofs.tree.copy_tree.Given as goal

abbrev pub invariant-loop-i : goal.invariant-loop-i
invariant-loop-i l = Walking l.s l.probs l.leads l.initial.next l.initial.out l.next l.i l.out

abbrev pub decreases-loop-i : goal.decreases-loop-i
decreases-loop-i l = l.n - l.i
