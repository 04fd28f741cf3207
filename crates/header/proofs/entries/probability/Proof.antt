use Rattle.numbers.specs.Words.{suc, ◌+◌, ◌-◌, ◌<◌, arith, ◌≡◌, ◌∙◌, ap, le-ltb, List, [], ◌∷◌, ℤ, pos, negsuc, nat_abs, ◌+ℤ◌, rem_z, fit, rounded, Var, E, know, fits, ◌⊕◌, lit, rem, v, known, any, unsigned_asks, w32, w64, SFits}
use Rattle.header.specs.Header.{probability_of}
use Rattle.header.proofs.entries.probability.Statement.{statement}
use Rattle.header.proofs.entries.probability.Tie as tie
use Rattle.header.proofs.entries.probability.Reads as reads
use Rattle.header.proofs.entries.probability.Lts as lts

-- the entry, widened
abbrev ρ : tie.Start → List Var
ρ c = known (rounded w64 (any w32 c.ranges.entry) tt) ∷ []

abbrev sum : E
sum = rem (v 0 ⊕ lit (pos 4294967296)) 256

remainder : (z : ℤ) → SFits w32 z → nat_abs (rem_z (z +ℤ pos 4294967296) (pos 256)) ≡ probability_of z
remainder (pos n) f = omega arith
remainder (negsuc n) f =
    let g : n < 2147483648 = omega (arith, f.sfits) in
    rw (le-ltb 4294967296 (suc n) (omega arith)) (omega arith)

cast-result : tie.Need-overflow_cast-result
cast-result c = fit (any w32 c.ranges.entry) tt

add-result : tie.Need-overflow_add-result
add-result c = fits w64 (ρ c) (v 0 ⊕ lit (pos 4294967296)) tt

rem-result : tie.Need-nonzero_rem-result
rem-result c = fits w64 (ρ c) sum tt

cast-result-2 : tie.Need-overflow_cast-result-2
cast-result-2 c = unsigned_asks (know w64 (ρ c) sum tt) tt

returns : tie.Need-returns
returns c = ap nat_abs (know w64 (ρ c) sum tt).eq ∙ remainder c.args.entry c.ranges.entry

pub probability_spec : {M : Type 1} → statement M
probability_spec = tie.close (tie.spec cast-result add-result rem-result cast-result-2 returns)
