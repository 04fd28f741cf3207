use Rattle.numbers.specs.Words.{ℕ, ◌≤◌, ◌≡◌, length, get_or, placed, pos}
use Rattle.residual.proofs.quick.set_firsts.Given as goal

abbrev pub invariant-loop-k : goal.invariant-loop-k
invariant-loop-k l = (length l.flat ≡ 400) × (l.k ≤ 16) × (l.flat ≡ placed l.initial.flat 0 (λ (j : ℕ). get_or l.dc j (pos 0)) l.k)
