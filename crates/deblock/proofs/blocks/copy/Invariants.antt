use Rattle.numbers.specs.Words.{◌≤◌, ◌≡◌}
use Rattle.deblock.specs.Block.{rows_copied}
use Rattle.deblock.proofs.blocks.copy.Given as goal

abbrev pub invariant-loop-i : goal.invariant-loop-i
invariant-loop-i l = (l.i ≤ l.rows) × (l.to ≡ rows_copied l.initial.to l.at l.w l.from l.start l.v l.n l.i)
