-- `by_cosine` meets its contract: the product and the sum fit 32 bits, and the sum's part in 32768 is that of twice it in 65536.
use Rattle.numbers.specs.Words.{◌∙◌, List, [], ◌∷◌, Var, is, E, fits, ◌⊕◌, ◌⊙◌, shr, v, known, there, w32}
use Rattle.transform.specs.TransformLaws.{by_halves}
use Rattle.transform.proofs.by_cosine.Statement.{statement}
use Rattle.transform.proofs.by_cosine.Tie as tie

abbrev ρ : tie.Start → List Var
ρ c = known (there w32 c.requires tt) ∷ []

abbrev sum : E
sum = 10045 ⊙ v 0 ⊕ shr (v 0) 1

returns : tie.Need-returns
returns c = is w32 (ρ c) (shr sum 15) tt ∙ by_halves c.args.x

pub by_cosine_spec : {M : Type 1} → statement M
by_cosine_spec = tie.close (tie.spec (λ c. fits w32 (ρ c) (10045 ⊙ v 0) tt) (λ c. fits w32 (ρ c) sum tt) returns)
