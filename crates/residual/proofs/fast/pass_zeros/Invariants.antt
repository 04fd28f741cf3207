use Rattle.residual.specs.FastLaws.{Zeroing}
use Rattle.residual.specs.Symbols.{Ranged}
use Rattle.residual.proofs.fast.pass_zeros.Given as goal

abbrev pub invariant-loop-n : goal.invariant-loop-n
invariant-loop-n l = Zeroing l.s l.table l.kind l.first l.start l.initial.next l.n l.at l.next × Ranged l.next
