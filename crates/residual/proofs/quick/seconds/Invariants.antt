use Rattle.numbers.specs.Words.{ℕ, ◌+◌, get_or, Filled, pos}
use Rattle.residual.proofs.quick.seconds.Given as goal

abbrev pub invariant-loop-k : goal.invariant-loop-k
invariant-loop-k l = Filled l.c 16 (λ (j : ℕ). get_or l.flat (384 + j) (pos 0)) l.k
