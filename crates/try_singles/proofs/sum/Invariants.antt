use Rattle.numbers.specs.Words.{◌<◌, ◌≡◌}
use Rattle.try_singles.specs.Cases.{sum_to}
use Rattle.try_singles.proofs.sum.Given as goal

abbrev pub invariant-loop-x : goal.invariant-loop-x
invariant-loop-x l = (l.s < 4294967291) × (l.s ≡ sum_to l.p l.x-index)
