use Rattle.numbers.specs.Words.{ℕ, ◌/◌, ◌%◌, ◌≤◌, ◌≡◌, false, stored_at}
use Rattle.transform.specs.Transform.{cell, result_of}
use Rattle.transform.specs.Lanes.{row_place}
use Rattle.transform.proofs.lanes.put_lane.Given as goal

abbrev pub invariant-loop-k : goal.invariant-loop-k
invariant-loop-k l = (l.k ≤ 16) × (l.t ≡ stored_at l.initial.t (row_place l.i) (λ (j : ℕ). result_of false (cell l.g (j / 4) (j % 4))) l.k)
