use Rattle.numbers.specs.Words.{◌≡◌}
use Rattle.casefile.specs.Measures.{fnv_to}
use Rattle.casefile.proofs.measures.hash.Given as goal

abbrev pub invariant-loop-x : goal.invariant-loop-x
invariant-loop-x l = l.h ≡ fnv_to l.mem l.x-index
