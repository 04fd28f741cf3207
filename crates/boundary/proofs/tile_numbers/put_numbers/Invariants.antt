use Rattle.numbers.specs.Words.{get_or, Filled}
use Rattle.boundary.proofs.tile_numbers.put_numbers.Given as goal

abbrev pub invariant-loop-i : goal.invariant-loop-i
invariant-loop-i l = Filled l.tile 28 (λ k. get_or l.n k 0) l.i
