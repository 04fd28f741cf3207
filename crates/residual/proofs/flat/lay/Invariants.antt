use Rattle.numbers.specs.Words.{◌*◌, ◌≤◌, ◌≡◌, length}
use Rattle.residual.specs.Residual.{laid_from}
use Rattle.residual.proofs.flat.lay.Given as goal

abbrev pub invariant-loop-j : goal.invariant-loop-j
invariant-loop-j l = (length l.out ≡ 384) × (l.j ≤ 16 * l.n) × (l.out ≡ laid_from l.initial.out l.flat l.n l.from l.j)
