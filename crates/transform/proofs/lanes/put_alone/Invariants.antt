use Rattle.numbers.specs.Words.{◌≤◌, ◌≡◌, false, stored_at}
use Rattle.transform.specs.Pieces.{lane_of, alone_at}
use Rattle.transform.specs.Transform.{samples_of}
use Rattle.transform.specs.Lanes.{row_place}
use Rattle.transform.proofs.lanes.put_alone.Given as goal

abbrev pub invariant-loop-k : goal.invariant-loop-k
invariant-loop-k l = (l.k ≤ 16) × (l.s ≡ samples_of false (lane_of l.n l.c l.i)) × (l.t ≡ stored_at l.initial.t (row_place l.i) (alone_at l.n l.c l.i) l.k)
