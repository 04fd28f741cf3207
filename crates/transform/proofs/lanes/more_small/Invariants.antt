use Rattle.numbers.specs.Words.{ℕ, ◌+◌, ◌≤◌, ◌≡◌, all_below}
use Rattle.transform.specs.Pieces.{is_small}
use Rattle.transform.specs.Transform.{at}
use Rattle.transform.proofs.lanes.more_small.Given as goal

abbrev pub invariant-loop-k : goal.invariant-loop-k
invariant-loop-k l = (l.k ≤ 64) × (l.small ≡ all_below (l.from + l.k) (λ (i : ℕ). is_small (at l.c i)))
