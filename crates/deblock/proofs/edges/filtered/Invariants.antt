use Rattle.numbers.specs.Words.{◌≤◌, ◌≡◌}
use Rattle.deblock.specs.Deblock.{sweep_of}
use Rattle.deblock.proofs.edges.filtered.Given as goal

abbrev pub invariant-loop-i : goal.invariant-loop-i
invariant-loop-i l = (l.i ≤ 16) × (l.t ≡ sweep_of l.g 0 1 16 l.i l.initial.t)
