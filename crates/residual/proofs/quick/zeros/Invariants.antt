use Rattle.numbers.specs.Words.{◌≤◌, ◌≡◌}
use Rattle.residual.specs.Groups.{zeros_at}
use Rattle.residual.proofs.quick.zeros.Given as goal

abbrev pub invariant-loop-i : goal.invariant-loop-i
invariant-loop-i l = (l.i ≤ l.n) × (l.all ≡ zeros_at l.flat l.at l.i)
