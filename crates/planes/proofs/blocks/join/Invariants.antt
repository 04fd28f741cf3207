use Rattle.numbers.specs.Words.{◌≤◌}
use Rattle.planes.specs.Pieces.{Joined}
use Rattle.planes.proofs.blocks.join.Given as goal

abbrev pub invariant-loop-i : goal.invariant-loop-i
invariant-loop-i l = (l.i ≤ 8) × Joined l.c l.from l.initial.some l.some l.i
