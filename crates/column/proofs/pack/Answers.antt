use Rattle.numbers.specs.Words.{ℕ, ◌/◌, ◌%◌, ap₂, [], ◌∷◌}
use Rattle.column.proofs.pack.Goals as goal

pub returns : goal.returns
returns c = ap₂ (λ (m f : ℕ). m / 256 % 256 ∷ m % 256 ∷ f / 256 % 256 ∷ f % 256 ∷ []) c.pack_modes-m.ensures.0 c.pack_flags-f.ensures.0
