use Rattle.numbers.specs.Words.{◌∙◌, ap}
use Rattle.casefile.specs.Run.{report_of}
use Rattle.casefile.proofs.run.told.Goals as goal

pub returns : goal.returns
returns c = c.report.ensures ∙ ap report_of c.through-d.ensures
