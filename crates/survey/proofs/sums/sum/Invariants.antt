use Rattle.survey.specs.SurveyLaws.{Adding}
use Rattle.survey.proofs.sums.sum.Given as goal

abbrev pub invariant-loop-i : goal.invariant-loop-i
invariant-loop-i l = Adding l.initial.counts l.other l.counts l.i
