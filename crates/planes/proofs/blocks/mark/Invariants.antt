use Rattle.numbers.specs.Words.{◌≤◌}
use Rattle.planes.specs.Pieces.{Marked}
use Rattle.planes.proofs.blocks.mark.Given as goal

abbrev pub invariant-loop-i : goal.invariant-loop-i
invariant-loop-i l = (l.i ≤ 8) × Marked l.initial.coded l.first l.some l.coded l.i
