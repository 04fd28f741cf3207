use Rattle.hookbarley.proofs.surveying.hookbarley_survey_add.Goals as goal

pub returns : goal.returns
returns c = c.add.ensures
