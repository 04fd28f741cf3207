use Rattle.numbers.specs.Words.{◌*◌, ◌≤◌}
use Rattle.planes.specs.Pieces.{Coded}
use Rattle.planes.proofs.blocks.coded_blocks.Given as goal

abbrev pub invariant-loop-h : goal.invariant-loop-h
invariant-loop-h l = (l.h ≤ 2) × Coded l.c 16 l.coded (8 * l.h)
