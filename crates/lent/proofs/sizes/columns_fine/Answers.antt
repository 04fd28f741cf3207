use Rattle.numbers.specs.Words.{refl}
use Rattle.lent.specs.SizesLaws.{long_same}
use Rattle.lent.proofs.sizes.columns_fine.Goals as goal

pub returns : goal.returns
returns c = rw c.sides_fine.ensures (long_same _ _ _ (λ s. refl))
