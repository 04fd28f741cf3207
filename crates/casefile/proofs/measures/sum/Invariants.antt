use Rattle.numbers.specs.Words.{◌*◌, ◌≤◌, ◌≡◌}
use Rattle.casefile.specs.Measures.{sum_to}
use Rattle.casefile.proofs.measures.sum.Given as goal

abbrev pub invariant-loop-x : goal.invariant-loop-x
invariant-loop-x l = (l.s ≡ sum_to l.mem l.x-index) × (l.s ≤ 255 * l.x-index)
