-- `by_sine` meets its contract: the product fits 32 bits, and its part in 16384 is that of four times it in 65536.
use Rattle.numbers.specs.Words.{◌∙◌, List, [], ◌∷◌, Var, is, fits, ◌⊙◌, shr, v, known, there, w32}
use Rattle.transform.specs.TransformLaws.{by_fours}
use Rattle.transform.proofs.by_sine.Statement.{statement}
use Rattle.transform.proofs.by_sine.Tie as tie

abbrev ρ : tie.Start → List Var
ρ c = known (there w32 c.requires tt) ∷ []

pub by_sine_spec : {M : Type 1} → statement M
by_sine_spec = tie.close (tie.spec (λ c. fits w32 (ρ c) (8867 ⊙ v 0) tt) (λ c. is w32 (ρ c) (shr (8867 ⊙ v 0) 14) tt ∙ by_fours _))
