-- `transpose` meets its contract, column by column.
use Rattle.numbers.specs.Words.{refl, ◌∷≡◌}
use Rattle.transform.specs.Transform.{transpose_of}
use Rattle.transform.proofs.transpose.Goals as goal

pub returns : goal.returns
unfolding transpose_of
returns c = c.column.ensures ∷≡ c.column-2.ensures ∷≡ c.column-3.ensures ∷≡ c.column-4.ensures ∷≡ refl
