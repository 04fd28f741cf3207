use Rattle.survey.specs.TallyLaws.{Smalling}
use Rattle.survey.proofs.tally.smalls.Given as goal

abbrev pub invariant-loop-mode : goal.invariant-loop-mode
invariant-loop-mode l = Smalling l.modes l.initial.counts l.counts l.mode-index
