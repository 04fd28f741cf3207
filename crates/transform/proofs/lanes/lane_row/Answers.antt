-- `lane_row` meets its contract: what is read fits its type.
use Rattle.numbers.specs.Words.{refl, ◌∷≡◌, back, w16}
use Rattle.transform.proofs.lanes.lane_row.Goals as goal

pub returns : goal.returns
returns c = back w16 c.result-1.given ∷≡ back w16 c.result-2-1.given ∷≡ back w16 c.result-3-1.given ∷≡ back w16 c.result-4-1.given ∷≡ refl
