use Rattle.survey.specs.TallyLaws.{Blocking}
use Rattle.survey.proofs.tally.blocks.Given as goal

abbrev pub invariant-loop-k : goal.invariant-loop-k
invariant-loop-k l = Blocking l.modes l.strengths l.n l.initial.counts l.counts l.k
