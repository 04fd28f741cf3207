use Rattle.numbers.specs.Words.{arith, ◌∙◌, ap, List, [], ◌∷◌, Var, is, val, fits, ◌⊕◌, v, known, there, unsigned, up_to, up_to_le, w32, rules}
use Rattle.header.proofs.quantizers.moved.Statement.{statement}
use Rattle.header.proofs.quantizers.moved.Tie as tie
use Rattle.header.proofs.quantizers.moved.Reads as reads
use Rattle.header.proofs.quantizers.moved.Lts as lts
use Rattle.numbers.proofs.clamp_to.Reads as clamp-to-reads

cast-clamp-to : tie.Need-overflow_cast-index
cast-clamp-to c = search rules

-- the index, widened, and the delta
abbrev ρ : tie.Start → List Var
ρ c = known (there w32 (unsigned c.ranges.index) tt) ∷ known (there w32 c.requires tt) ∷ []

add-clamp-to : tie.Need-overflow_add-index
add-clamp-to c = fits w32 (ρ c) (v 0 ⊕ v 1) tt

clamp-to-requires : tie.Need-clamp_to-requires
clamp-to-requires c κs = search rules

cast-result : tie.Need-overflow_cast-result
cast-result c = search rules

returns : tie.Need-returns
returns c = let e = c.clamp_to.ensures ∙ ap (up_to 127) (is w32 (ρ c.before) (v 0 ⊕ v 1) tt) in (e, rw e (omega (arith, up_to_le 127 (val w32 (ρ c.before) (v 0 ⊕ v 1)))))

pub moved_spec : {M : Type 1} → statement M
moved_spec = tie.close (tie.spec cast-clamp-to add-clamp-to clamp-to-requires cast-result returns)
