use Rattle.numbers.specs.Words.{◌∙◌, List, [], ◌∷◌, pos, Var, is, fits, ◌⊖◌, lit, v, known, there, unsigned_below, w32, rules}
use Rattle.casefile.specs.CaseFileLaws.{signed_low, signed_high}
use Rattle.casefile.proofs.layout.signed.Statement.{statement}
use Rattle.casefile.proofs.layout.signed.Tie as tie

-- the one number at hand: n, below 65536
abbrev ρ : tie.Start → List Var
ρ c = known (there w32 (unsigned_below c.requires) tt) ∷ []

cast-v : tie.Need-overflow_cast-v
cast-v c = search rules

returns : tie.Need-returns-then-n-lt32768
returns c = is w32 (ρ c.before) (v 0) tt ∙ signed_low _ c.if-n-lt32768.true

sub-result : tie.Need-overflow_sub-result
sub-result c = fits w32 (ρ c.before) (v 0 ⊖ lit (pos 65536)) tt

returns-2 : tie.Need-returns
returns-2 c = is w32 (ρ c.before) (v 0 ⊖ lit (pos 65536)) tt ∙ signed_high _ c.if-n-lt32768.false

pub signed_spec : {M : Type 1} → statement M
signed_spec = tie.close (tie.spec cast-v returns sub-result returns-2)
