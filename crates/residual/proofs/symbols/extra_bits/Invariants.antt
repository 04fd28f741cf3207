use Rattle.wide.specs.WideRuns.{Taking}
use Rattle.residual.specs.Symbols.{Ranged}
use Rattle.residual.proofs.symbols.extra_bits.Given as goal

abbrev pub invariant-loop-prob : goal.invariant-loop-prob
invariant-loop-prob l = Taking l.s l.probs l.initial.next l.value l.next l.prob-index × Ranged l.next
