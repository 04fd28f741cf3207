-- `wrapped` meets its contract: it is the definition, and each step of it fits 32 bits.
use Rattle.numbers.specs.Words.{List, [], ◌∷◌, pos, Var, is, E, fits, ◌⊕◌, ◌⊖◌, ◌⊙◌, lit, shr, v, known, there, wrap_z, w32}
use Rattle.transform.proofs.wrapped.Statement.{statement}
use Rattle.transform.proofs.wrapped.Tie as tie

abbrev ρ : tie.Start → List Var
ρ c = known (there w32 c.requires tt) ∷ []

abbrev above : E
above = v 0 ⊕ lit (pos 32768)

-- what is taken off
abbrev off : E
off = 65536 ⊙ shr above 16

returns : tie.Need-returns
unfolding wrap_z
returns c = is w32 (ρ c) (v 0 ⊖ off) tt

pub wrapped_spec : {M : Type 1} → statement M
wrapped_spec = tie.close (tie.spec (λ c. fits w32 (ρ c) above tt) (λ c. fits w32 (ρ c) off tt) (λ c. fits w32 (ρ c) (v 0 ⊖ off) tt) returns)
