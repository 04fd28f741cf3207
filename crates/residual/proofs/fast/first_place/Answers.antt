use Rattle.residual.specs.FastLaws.{place_first}
use Rattle.residual.proofs.fast.first_place.Goals as goal

pub returns : goal.returns
returns c = place_first _ _ _ c.requires.1.1
