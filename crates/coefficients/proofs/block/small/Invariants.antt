use Rattle.numbers.specs.Words.{◌≤◌, ◌≡◌}
use Rattle.coefficients.specs.Block.{sixteen_bits}
use Rattle.coefficients.proofs.block.small.Given as goal

abbrev pub invariant-loop-v : goal.invariant-loop-v
invariant-loop-v l = (l.v-index ≤ 16) × (l.fine ≡ sixteen_bits l.out l.v-index)
