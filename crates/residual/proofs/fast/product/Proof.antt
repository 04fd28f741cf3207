use Rattle.numbers.specs.Words.{◌*◌, ◌%◌, arith, sym, ◌∙◌, List, [], ◌∷◌, pos, fit, rounded, Var, E, know, fits, ◌⊖◌, lit, v, known, there, unsigned_below, w16, w32, rules}
use Rattle.residual.specs.FastLaws.{wrap_raised}
use Rattle.residual.proofs.fast.product.Statement.{statement}
use Rattle.residual.proofs.fast.product.Tie as tie

-- the raised product's low sixteen bits, less 32768
abbrev ρ : tie.After-raised → List Var
ρ c = known (there w32 (unsigned_below {n = c.raised.result % 65536} {m = 65535} (omega arith)) tt) ∷ []

abbrev x : E
x = v 0 ⊖ lit (pos 32768)

raised-requires : tie.Need-raised-requires
raised-requires c κs = search rules

cast-result : tie.Need-overflow_cast-result
cast-result c = search rules

sub-result : tie.Need-overflow_sub-result
sub-result c = fits w32 (ρ c) x tt

cast-result-2 : tie.Need-overflow_cast-result-2
cast-result-2 c = fit (know w32 (ρ c) x tt) tt

returns : tie.Need-returns
returns c = (rounded w16 (know w32 (ρ c) x tt) tt).eq ∙ sym (wrap_raised c.args.negative (c.args.v * c.args.q) c.raised.ensures.1 c.raised.ensures.0)

pub product_spec : {M : Type 1} → statement M
product_spec = tie.close (tie.spec raised-requires cast-result sub-result cast-result-2 returns)
