use Rattle.numbers.specs.Words.{◌+◌, ◌*◌, ◌≤◌, set}
use Rattle.residual.specs.Groups.{Passed}
use Rattle.residual.proofs.quick.row.Given as goal

abbrev pub invariant-loop-x : goal.invariant-loop-x
invariant-loop-x l = (l.x ≤ l.k.side) × Passed l.s l.table l.k (l.k.side * l.y) (record { next = l.initial.next; reads = l.initial.reads; top = l.initial.top; left = l.left; empty = l.initial.empty }) l.initial.flat (l.k.side * l.y + l.x) (record { next = l.next; reads = l.reads; top = l.top; left = set l.left (l.k.flag + l.y) l.beside; empty = l.empty }) l.flat
