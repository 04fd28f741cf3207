use Rattle.numbers.specs.Words.{◌≤◌, ◌≡◌, length, Filled}
use Rattle.try_singles.specs.Cases.{after, sample_of}
use Rattle.try_singles.proofs.fill.Given as goal

abbrev pub invariant-loop-x : goal.invariant-loop-x
invariant-loop-x l = (l.n ≤ 65537) × (l.n ≡ after l.seed l.x-index) × Filled l.p (length l.initial.p) (sample_of l.seed) l.x-index
