use Rattle.numbers.specs.Words.{◌*◌, ◌≤◌}
use Rattle.residual.specs.Quick.{wider_of}
use Rattle.residual.specs.Groups.{Passed}
use Rattle.residual.proofs.quick.rows.Given as goal

abbrev pub invariant-loop-y : goal.invariant-loop-y
invariant-loop-y l = (l.y ≤ l.k.side) × Passed l.s l.table l.k 0 (wider_of l.initial.m l.initial.top l.initial.left) l.initial.flat (l.k.side * l.y) (wider_of l.m l.top l.left) l.flat
