use Rattle.numbers.specs.Words.{ℕ, ◌+◌, Filled}
use Rattle.coefficients.specs.Block.{probability_place}
use Rattle.residual.proofs.fast.places_after.Given as goal

abbrev pub invariant-loop-i : goal.invariant-loop-i
invariant-loop-i l = Filled l.places 16 (λ (n : ℕ). probability_place l.kind (n + 1) 0) l.i
