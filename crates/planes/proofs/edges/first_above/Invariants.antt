use Rattle.numbers.specs.Words.{ℕ, ◌+◌, ◌≤◌, ◌≡◌}
use Rattle.planes.specs.Paint.{near_of, first_places}
use Rattle.planes.proofs.edges.first_above.Given as goal

abbrev pub invariant-loop-k : goal.invariant-loop-k
invariant-loop-k l = (l.k ≤ l.size) × (l.e ≡ first_places l.k (λ (j : ℕ). near_of l.p l.w (l.x + 1 + j) l.y))
