use Rattle.recode.specs.TokenCopies.{Taking}
use Rattle.recode.proofs.token.copy_extra.Given as goal

abbrev pub invariant-loop-prob : goal.invariant-loop-prob
invariant-loop-prob l = Taking l.s l.probs l.initial.next l.initial.out l.next l.prob-index l.out
