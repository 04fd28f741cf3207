use Rattle.survey.specs.SurveyLaws.{told_none, told_other}
use Rattle.survey.proofs.told.Goals as goal

pub returns-then-full-eq0 : goal.returns-then-full-eq0
returns-then-full-eq0 c = told_none _ _ c.if-full-eq0.true

pub returns : goal.returns
returns c = told_other _ _ c.if-full-eq0.false
