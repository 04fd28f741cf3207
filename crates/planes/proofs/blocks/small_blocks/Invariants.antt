use Rattle.numbers.specs.Words.{◌≤◌, ◌≡◌}
use Rattle.planes.specs.Paint.{blocks_painted, small_rule, square_blocks}
use Rattle.planes.specs.Pieces.{FirstFit}
use Rattle.planes.proofs.blocks.small_blocks.Given as goal

abbrev pub invariant-loop-i : goal.invariant-loop-i
invariant-loop-i l = (l.i ≤ 16) × (l.p ≡ blocks_painted (small_rule l.w l.x l.y l.right l.modes) l.initial.p l.w l.x l.y 4 (square_blocks 16 0 l.c) l.i) × FirstFit l.c 0 l.i
