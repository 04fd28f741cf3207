use Rattle.numbers.specs.Words.{ℕ, ◌*◌, arith, ap}
use Rattle.lent.specs.SizesLaws.{long_same}
use Rattle.lent.proofs.sizes.strengths_fine.Goals as goal

pub returns : goal.returns
returns c = rw c.sides_fine.ensures (long_same _ _ _ (λ s. ap (λ (n : ℕ). 6 * n) (c.area.ensures.0 (omega (arith, s.width.most)) (omega (arith, s.height.most)))))
