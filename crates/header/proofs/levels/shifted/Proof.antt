use Rattle.numbers.specs.Words.{◌∙◌, ap, List, [], ◌∷◌, Var, is, fits, ◌⊕◌, v, known, there, unsigned, up_to, w32, rules}
use Rattle.header.proofs.levels.shifted.Statement.{statement}
use Rattle.header.proofs.levels.shifted.Tie as tie
use Rattle.header.proofs.levels.shifted.Reads as reads
use Rattle.header.proofs.levels.shifted.Lts as lts
use Rattle.numbers.proofs.clamp_to.Reads as clamp-to-reads

cast-clamp-to : tie.Need-overflow_cast-level
cast-clamp-to c = search rules

-- the level, widened, and what is added
abbrev ρ : tie.Start → List Var
ρ c = known (there w32 (unsigned c.ranges.level) tt) ∷ known (there w32 c.requires tt) ∷ []

add-clamp-to : tie.Need-overflow_add-level
add-clamp-to c = fits w32 (ρ c) (v 0 ⊕ v 1) tt

clamp-to-requires : tie.Need-clamp_to-requires
clamp-to-requires c κs = search rules

returns : tie.Need-returns
returns c = c.clamp_to.ensures ∙ ap (up_to 63) (is w32 (ρ c.before) (v 0 ⊕ v 1) tt)

pub shifted_spec : {M : Type 1} → statement M
shifted_spec = tie.close (tie.spec cast-clamp-to add-clamp-to clamp-to-requires returns)
