use Rattle.numbers.specs.Words.{ℕ, ◌≤◌, ◌≡◌, get_or}
use Rattle.predict.specs.Predict.{tm_one}
use Rattle.planes.specs.Pieces.{rows_placed}
use Rattle.planes.proofs.put.put_tm.Given as goal

abbrev pub invariant-loop-j : goal.invariant-loop-j
invariant-loop-j l = (l.j ≤ l.size) × (l.p ≡ rows_placed l.initial.p l.w l.x l.y l.size (λ (i k : ℕ). tm_one (get_or l.e.left i 0) (get_or l.e.above k 0) l.e.corner) l.j)
