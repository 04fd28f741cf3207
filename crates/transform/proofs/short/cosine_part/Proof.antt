-- `cosine_part` meets its contract: the product fits 32 bits, and its part in 65536 fits 16.
use Rattle.numbers.specs.Words.{List, [], ◌∷◌, fit, rounded, Var, E, know, fits, ◌⊙◌, shr, v, known, there, w16, w32}
use Rattle.transform.specs.Transform.{scaled_of}
use Rattle.transform.proofs.short.cosine_part.Statement.{statement}
use Rattle.transform.proofs.short.cosine_part.Tie as tie

abbrev ρ : tie.Start → List Var
ρ c = known (rounded w32 (there w16 c.requires tt) tt) ∷ []

abbrev part : E
part = shr (20091 ⊙ v 0) 16

returns : tie.Need-returns
unfolding scaled_of
returns c = (rounded w16 (know w32 (ρ c) part tt) tt).eq

pub cosine_part_spec : {M : Type 1} → statement M
cosine_part_spec = tie.close (tie.spec (λ c. fit (there w16 c.requires tt) tt) (λ c. fits w32 (ρ c) (20091 ⊙ v 0) tt) (λ c. fit (know w32 (ρ c) part tt) tt) returns)
