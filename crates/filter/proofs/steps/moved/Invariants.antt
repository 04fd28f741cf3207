use Rattle.numbers.specs.Words.{get_or, Filled, pos, ◌+ℤ◌, clip_z}
use Rattle.filter.proofs.steps.moved.Given as goal

abbrev pub invariant-loop-i : goal.invariant-loop-i
invariant-loop-i l = Filled l.out 8 (λ j. clip_z (pos (get_or l.e j 0) +ℤ get_or l.s j (pos 0))) l.i
