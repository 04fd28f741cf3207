use Rattle.numbers.specs.Words.{Filled}
use Rattle.filter.specs.Kernel.{samples_across}
use Rattle.straight.specs.Straight.{acts_of}
use Rattle.deblock.specs.Deblock.{across_of}
use Rattle.deblock.proofs.edges.acting.Given as goal

abbrev pub invariant-loop-i : goal.invariant-loop-i
invariant-loop-i l = Filled l.m 16 (λ j. acts_of (samples_across (across_of l.t j 16)) l.g.simple l.g.limit l.g.inner) l.i
