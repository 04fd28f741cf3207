use Rattle.numbers.specs.Words.{◌-◌, ◌/◌, ◌≤◌, ◌≡◌}
use Rattle.deblock.specs.Deblock.{turns, inner_at}
use Rattle.deblock.proofs.squares.inners.Given as goal

abbrev pub invariant-loop-j : goal.invariant-loop-j
invariant-loop-j l = (l.j ≤ l.j-end) × (l.j-end ≡ l.n / 4 - 1) × (l.p ≡ turns (inner_at l.upright l.g l.w l.x l.y l.n) l.j l.initial.p) × (l.q ≡ turns (inner_at l.upright l.g l.w l.x l.y l.n) l.j l.initial.q)
