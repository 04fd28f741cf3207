use Rattle.numbers.specs.Words.{Filled}
use Rattle.frame.specs.Entries.{value_of, number_at_of, numbers}
use Rattle.frame.proofs.entries.entries.Given as goal

abbrev pub invariant-loop-i : goal.invariant-loop-i
invariant-loop-i l = Filled l.out 1096 (λ k. value_of (number_at_of (numbers l.h) l.h.probs l.h.skip l.h.chance k)) l.i
