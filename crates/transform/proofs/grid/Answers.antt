-- `grid` meets its contract, row by row.
use Rattle.numbers.specs.Words.{refl, ◌∷≡◌}
use Rattle.transform.specs.Transform.{grid_of}
use Rattle.transform.proofs.grid.Goals as goal

pub returns : goal.returns
unfolding grid_of
returns c = c.row.ensures ∷≡ c.row-2.ensures ∷≡ c.row-3.ensures ∷≡ c.row-4.ensures ∷≡ refl
