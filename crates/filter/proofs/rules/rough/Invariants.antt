use Rattle.numbers.specs.Words.{◌≤◌}
use Rattle.filter.specs.Kernel.{samples_across, first_false, pairs}
use Rattle.filter.proofs.rules.rough.Given as goal

abbrev pub invariant-loop-k : goal.invariant-loop-k
invariant-loop-k l = (l.k ≤ 6) × (l.k ≤ first_false (pairs (samples_across l.e) l.inner))
