use Rattle.numbers.specs.Words.{ℕ, ◌≤◌, ◌≡◌, ltb, get_or, all_below}
use Rattle.planes.proofs.checks.each_below.Given as goal

abbrev pub invariant-loop-k : goal.invariant-loop-k
invariant-loop-k l = (l.k ≤ 16) × (l.fine ≡ all_below l.k (λ (i : ℕ). ltb (get_or l.modes i 0) l.limit))
