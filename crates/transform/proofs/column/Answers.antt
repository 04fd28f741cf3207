-- `column` meets its contract: what is read fits its type.
use Rattle.numbers.specs.Words.{refl, ◌∷≡◌, back, w32}
use Rattle.transform.proofs.column.Goals as goal

pub returns : goal.returns
returns c = back w32 c.result-1.given ∷≡ back w32 c.result-2-1.given ∷≡ back w32 c.result-3-1.given ∷≡ back w32 c.result-4-1.given ∷≡ refl
