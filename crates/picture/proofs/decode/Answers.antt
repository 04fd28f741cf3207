use Rattle.numbers.specs.Words.{◌∙◌, ap}
use Rattle.picture.specs.HaltLaws.{ended_in, halted_picture}
use Rattle.picture.proofs.decode.Goals as goal

pub returns : goal.returns
returns c = (ap ended_in c.halt-stop.ensures.0 ∙ halted_picture _ _, c.halt-stop.ensures.1)
