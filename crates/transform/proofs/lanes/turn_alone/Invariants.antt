use Rattle.numbers.specs.Words.{◌≤◌, ◌≡◌}
use Rattle.transform.specs.Pieces.{alone_at}
use Rattle.transform.specs.Lanes.{turned_to}
use Rattle.transform.proofs.lanes.turn_alone.Given as goal

abbrev pub invariant-loop-i : goal.invariant-loop-i
invariant-loop-i l = (l.i ≤ l.n) × (l.t ≡ turned_to (alone_at l.n l.c) l.initial.t l.i)
