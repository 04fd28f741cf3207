use Rattle.recode_frame.specs.HeaderCopies.{Probing}
use Rattle.recode_frame.proofs.after.copy_probs.Given as goal

abbrev pub invariant-loop-chance : goal.invariant-loop-chance
invariant-loop-chance l = Probing l.s l.initial.next l.initial.out l.next l.chance-index l.out
