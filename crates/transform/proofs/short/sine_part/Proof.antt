-- `sine_part` meets its contract: the product fits 32 bits, and its part in 65536 fits 16.
use Rattle.numbers.specs.Words.{◌∙◌, List, [], ◌∷◌, pos, fit, rounded, Var, is, E, know, fits, ◌⊕◌, ◌⊖◌, ◌⊙◌, lit, shr, v, known, there, w16, w32}
use Rattle.transform.specs.TransformLaws.{by_rest}
use Rattle.transform.proofs.short.sine_part.Statement.{statement}
use Rattle.transform.proofs.short.sine_part.Tie as tie

abbrev ρ : tie.Start → List Var
ρ c = known (rounded w32 (there w16 c.requires tt) tt) ∷ []

abbrev rest : E
rest = lit (pos 0) ⊖ 30068 ⊙ v 0

abbrev ρ2 : tie.Start → List Var
ρ2 c = known (there w16 c.requires tt) ∷ known (rounded w16 (know w32 (ρ c) (shr rest 16) tt) tt) ∷ []

returns : tie.Need-returns
returns c = is w16 (ρ2 c) (v 0 ⊕ v 1) tt ∙ by_rest _

pub sine_part_spec : {M : Type 1} → statement M
sine_part_spec = tie.close (tie.spec (λ c. fit (there w16 c.requires tt) tt) (λ c. fits w32 (ρ c) (30068 ⊙ v 0) tt) (λ c. fits w32 (ρ c) rest tt) (λ c. fit (know w32 (ρ c) (shr rest 16) tt) tt) (λ c. fits w16 (ρ2 c) (v 0 ⊕ v 1) tt) returns)
