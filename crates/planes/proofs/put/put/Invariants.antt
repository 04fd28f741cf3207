use Rattle.numbers.specs.Words.{ℕ, ◌≤◌, ◌≡◌, get_or, placed}
use Rattle.planes.proofs.put.put.Given as goal

abbrev pub invariant-loop-k : goal.invariant-loop-k
invariant-loop-k l = (l.k ≤ l.n) × (l.p ≡ placed l.initial.p l.at (λ (j : ℕ). get_or l.b j 0) l.k)
