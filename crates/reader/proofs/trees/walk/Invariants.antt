use Rattle.reader.proofs.Turns.{Walking}
use Rattle.reader.proofs.trees.walk.Given as goal

abbrev pub invariant-loop-reads : goal.invariant-loop-reads
invariant-loop-reads l = Walking l.s l.probs l.tree l.i l.initial.next l.reads l.node l.next
