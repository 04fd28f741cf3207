use Rattle.numbers.specs.Words.{◌*◌, ◌≤◌, false}
use Rattle.residual.specs.Residual.{residual_of}
use Rattle.residual.specs.Quick.{wider_of}
use Rattle.residual.specs.Groups.{start_of, Ready, Parting}
use Rattle.residual.proofs.quick.parts.Given as goal

abbrev pub invariant-loop-g : goal.invariant-loop-g
invariant-loop-g l =
    ((l.g ≤ 4) × (l.m.reads ≤ 121600 * l.g))
    × (Ready l.table (wider_of l.m l.top l.left) l.flat × Parting l.s l.table l.f l.small (residual_of l.table l.f l.small false l.initial.top l.initial.left) l.initial.m.next l.g (start_of l.g) (wider_of l.m l.top l.left) l.flat)
