use Rattle.numbers.specs.Words.{ℕ, ◌*◌, ◌/◌, ◌≤◌, ◌≡◌, length, all_below}
use Rattle.transform.specs.Transform.{at}
use Rattle.transform.specs.Pieces.{is_small}
use Rattle.transform.proofs.lanes.each_small.Given as goal

abbrev pub invariant-loop-i : goal.invariant-loop-i
invariant-loop-i l = (l.i ≤ length l.c / 64) × (l.small ≡ all_below (64 * l.i) (λ (k : ℕ). is_small (at l.c k)))
