use Rattle.numbers.specs.Words.{◌+◌, ◌*◌, get_or, Filled}
use Rattle.deblock.proofs.edges.across.Given as goal

abbrev pub invariant-loop-k : goal.invariant-loop-k
invariant-loop-k l = Filled l.e 8 (λ j. get_or l.t (l.i + j * 16) 0) l.k
