use Rattle.hookbarley.specs.CallsLaws.{survey_called_refused, survey_called_found}
use Rattle.numbers.specs.Words.{rules}
use Rattle.hookbarley.proofs.surveying.hookbarley_survey.Statement.{statement}
use Rattle.hookbarley.proofs.surveying.hookbarley_survey.Tie as tie

abbrev called : tie.After-tell_counts → tie.After-survey-s
called c = c.before.before.before.before.before.before.before.before.before.before.before.before.before.before.before.before.before.before.before

returns : tie.Need-returns-then-tile-ne-TILE_NUMBERS
returns c = survey_called_refused _ _ _ _ _ c.if-tile-ne-TILE_NUMBERS.true

returns-2 : tie.Need-returns
returns-2 c = survey_called_found _ _ _ _ _ (called c).if-tile-ne-TILE_NUMBERS.false (called c).tile_of.ensures (called c).survey-s.ensures c.tell_counts.ensures

pub hookbarley_survey_spec : {M : Type 1} → statement M
hookbarley_survey_spec = tie.close (tie.spec returns (λ c κs. search rules) (λ c κs. search rules) (λ c κs. search rules) (λ c. (called c).survey-s.auto.y) (λ c. (called c).survey-s.auto.u) (λ c. (called c).survey-s.auto.v) (λ c. (called c).survey-s.auto.columns) (λ c. (called c).survey-s.auto.modes) (λ c. (called c).survey-s.auto.strengths) (λ c. (called c).survey-s.auto.counts) returns-2)
