use Rattle.numbers.specs.Words.{ℕ, ◌≤◌, ◌≡◌, leb, all_below}
use Rattle.lent.specs.Memory.{records_in, strength_width, strength_at_of}
use Rattle.deblock.proofs.checks.limits_fine.Given as goal

abbrev pub invariant-loop-k : goal.invariant-loop-k
invariant-loop-k l = (l.k ≤ l.blocks) × (l.blocks ≡ records_in strength_width l.strengths) × (l.fine ≡ all_below l.k (λ (i : ℕ). leb (strength_at_of l.strengths i).limit 189))
