use Rattle.numbers.specs.Words.{◌≤◌, ◌≡◌, length}
use Rattle.residual.specs.Residual.{spread}
use Rattle.residual.proofs.flat.spread.Given as goal

abbrev pub invariant-loop-k : goal.invariant-loop-k
invariant-loop-k l = (length l.flat ≡ 384) × (l.k ≤ 16) × (l.flat ≡ spread l.initial.flat l.dc l.k)
