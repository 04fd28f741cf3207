use Rattle.numbers.specs.Words.{ℕ, ◌≤◌, ◌≡◌, leb, get_or, all_below}
use Rattle.residual.proofs.contexts.flags_fine.Given as goal

abbrev pub invariant-loop-flag : goal.invariant-loop-flag
invariant-loop-flag l = (l.flag-index ≤ 9) × (l.fine ≡ all_below l.flag-index (λ (k : ℕ). leb (get_or l.fn.flags k 0) 1))
