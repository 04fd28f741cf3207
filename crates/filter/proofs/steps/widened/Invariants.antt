use Rattle.numbers.specs.Words.{get_or, Filled, pos}
use Rattle.filter.proofs.steps.widened.Given as goal

abbrev pub invariant-loop-i : goal.invariant-loop-i
invariant-loop-i l = Filled l.out 8 (λ j. get_or l.s j (pos 0)) l.i
