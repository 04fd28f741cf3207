use Rattle.numbers.specs.Words.{ℕ, ◌∙◌, ap, List, get_or}
use Rattle.coefficients.specs.BlockSteps.{band_below}
use Rattle.recode.proofs.block.band.Goals as goal

pub returns : goal.returns
returns c = (c.from.ensures ∙ ap (λ (l : List ℕ). get_or l c.args.n 0) c.requires.table_value, rw (c.from.ensures, c.requires.table_value) (band_below c.args.n))
