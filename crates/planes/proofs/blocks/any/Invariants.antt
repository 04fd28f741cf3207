use Rattle.numbers.specs.Words.{◌≤◌, ◌≡◌, false}
use Rattle.planes.specs.Pieces.{NoneBelow}
use Rattle.planes.proofs.blocks.any.Given as goal

abbrev pub invariant-loop-i : goal.invariant-loop-i
invariant-loop-i l = (l.i ≤ 16) × (l.some ≡ false → NoneBelow l.coded l.i)
