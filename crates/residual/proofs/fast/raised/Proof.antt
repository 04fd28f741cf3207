use Rattle.numbers.specs.Words.{◌*◌, ◌≤◌, mul-le-mul, arith, refl}
use Rattle.residual.proofs.fast.raised.Statement.{statement}
use Rattle.residual.proofs.fast.raised.Tie as tie

-- the product of the two ranges
most : (c : tie.Start) → c.args.v * c.args.q ≤ 2114 * 65535
most c = mul-le-mul {n₁ = c.args.v} {m₁ = c.args.q} {n₂ = 2114} {m₂ = 65535} c.requires (omega (arith, c.ranges.q))

mul-x : tie.Need-overflow_mul-x
mul-x c = record { fits = omega (arith, most c) }

sub-result : tie.Need-overflow_sub-result
sub-result c = omega (arith, most c.before)

returns : tie.Need-returns-then-negative
returns c = (rw c.if-negative.true refl, omega (arith, most c.before))

add-result : tie.Need-overflow_add-result
add-result c = record { fits = omega (arith, most c.before) }

returns-2 : tie.Need-returns
returns-2 c = (rw c.if-negative.false refl, omega (arith, most c.before))

pub raised_spec : {M : Type 1} → statement M
raised_spec = tie.close (tie.spec mul-x sub-result returns add-result returns-2)
