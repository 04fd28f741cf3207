use Rattle.numbers.specs.Words.{ℕ, ◌-◌, ◌≤◌, ◌≡◌, length, placed}
use Rattle.blank.proofs.fill.Given as goal

abbrev pub invariant-loop-at : goal.invariant-loop-at
invariant-loop-at l = (l.at ≤ length l.initial.mem) × (l.mem ≡ placed l.initial.mem 0 (λ (i : ℕ). l.value) l.at)

abbrev pub decreases-loop-at : goal.decreases-loop-at
decreases-loop-at l = length l.initial.mem - l.at
