use Rattle.numbers.specs.Words.{ℕ, ◌≤◌, ◌<◌, ◌≡◌, false, get_or}
use Rattle.deblock.proofs.edges.any.Given as goal

abbrev pub invariant-loop-i : goal.invariant-loop-i
invariant-loop-i l = (l.i ≤ 16) × (l.found ≡ false → (k : ℕ) → k < l.i → get_or l.m k false ≡ false)
