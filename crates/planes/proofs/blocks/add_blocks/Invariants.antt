use Rattle.numbers.specs.Words.{◌*◌, ◌≤◌, ◌≡◌}
use Rattle.planes.specs.Paint.{blocks_painted, square_blocks}
use Rattle.planes.specs.Pieces.{stand_rule, FirstFit}
use Rattle.planes.proofs.blocks.add_blocks.Given as goal

abbrev pub invariant-loop-i : goal.invariant-loop-i
invariant-loop-i l = (l.i ≤ l.m * l.m) × (l.p ≡ blocks_painted (stand_rule l.w l.x l.y l.m) l.initial.p l.w l.x l.y l.m (square_blocks (4 * l.m) l.from l.c) l.i) × FirstFit l.c l.from l.i
