use Rattle.numbers.specs.Words.{ℕ, ◌/◌, ◌%◌, Filled}
use Rattle.transform.specs.Transform.{cell, result_of}
use Rattle.transform.proofs.results.Given as goal

abbrev pub invariant-loop-k : goal.invariant-loop-k
invariant-loop-k l = Filled l.out 16 (λ (i : ℕ). result_of l.walsh (cell l.g (i / 4) (i % 4))) l.k
