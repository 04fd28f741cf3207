use Rattle.numbers.specs.Words.{◌≤◌, ◌≡◌}
use Rattle.deblock.specs.Deblock.{laid_back}
use Rattle.deblock.proofs.edges.put_six.Given as goal

abbrev pub invariant-loop-k : goal.invariant-loop-k
invariant-loop-k l = (l.k ≤ 6) × (l.t ≡ laid_back l.initial.t l.i 16 l.e l.k)
