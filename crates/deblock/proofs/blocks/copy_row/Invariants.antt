use Rattle.numbers.specs.Words.{◌≤◌, ◌≡◌, copied}
use Rattle.deblock.proofs.blocks.copy_row.Given as goal

abbrev pub invariant-loop-k : goal.invariant-loop-k
invariant-loop-k l = (l.k ≤ l.n) × (l.to ≡ copied l.initial.to l.at l.from l.start l.k)
