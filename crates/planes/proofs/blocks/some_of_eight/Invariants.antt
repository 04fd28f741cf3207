use Rattle.numbers.specs.Words.{◌≤◌}
use Rattle.planes.specs.Pieces.{Looked}
use Rattle.planes.proofs.blocks.some_of_eight.Given as goal

abbrev pub invariant-loop-k : goal.invariant-loop-k
invariant-loop-k l = (1 ≤ l.k) × (l.k ≤ 16) × Looked l.c l.n l.first l.some l.k
