use Rattle.lent.specs.SizesLaws.{long_same}
use Rattle.lent.proofs.sizes.luma_fine.Goals as goal

pub returns : goal.returns
returns c = rw c.sides_fine.ensures (long_same _ _ _ (λ s. c.area.ensures.0 s.width.most s.height.most))
