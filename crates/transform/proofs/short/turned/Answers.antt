-- `turned` meets its contract, column by column.
use Rattle.numbers.specs.Words.{refl, ◌∷≡◌}
use Rattle.transform.specs.Transform.{transpose_of}
use Rattle.transform.proofs.short.turned.Goals as goal

pub returns : goal.returns
unfolding transpose_of
returns c = c.short_column.ensures ∷≡ c.short_column-2.ensures ∷≡ c.short_column-3.ensures ∷≡ c.short_column-4.ensures ∷≡ refl
