use Rattle.numbers.specs.Words.{ℕ, ◌≤◌, ◌≡◌, get_or}
use Rattle.planes.specs.Pieces.{rows_placed}
use Rattle.planes.proofs.put.put_left.Given as goal

abbrev pub invariant-loop-j : goal.invariant-loop-j
invariant-loop-j l = (l.j ≤ l.size) × (l.p ≡ rows_placed l.initial.p l.w l.x l.y l.size (λ (i k : ℕ). get_or l.l i 0) l.j)
