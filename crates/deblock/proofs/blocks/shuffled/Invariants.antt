use Rattle.numbers.specs.Words.{◌+◌, ◌*◌, ◌/◌, ◌%◌, ◌≤◌, get_or, Filled}
use Rattle.deblock.proofs.blocks.shuffled.Given as goal

abbrev pub invariant-loop-i : goal.invariant-loop-i
invariant-loop-i l = (l.i ≤ 64) × Filled l.out 128 (λ j. get_or l.t (j / 2 + j % 2 * 64) 0) (2 * l.i)
