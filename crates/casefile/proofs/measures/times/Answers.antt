use Rattle.casefile.specs.MeasuresLaws.{in_halves}
use Rattle.casefile.proofs.measures.times.Goals as goal

pub returns : goal.returns
returns c = in_halves _
