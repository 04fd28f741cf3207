use Rattle.numbers.specs.Words.{◌+◌, ◌-◌, ◌*◌, ◌^◌, ◌<◌, arith, ◌≡◌, refl, not-false, not-true, length}
use Rattle.residual.specs.Symbols.{Ranged}
use Rattle.residual.specs.SymbolsLaws.{ranged_fill, ranged_half}
use Rattle.residual.specs.Fast.{spots_of}
use Rattle.residual.specs.FastLaws.{place_after, place_near, Blocking, blocking_start, blocking_long, blocking_inside, blocking_end, blocking_stops, blocking_zeros, blocking_number, step_last}
use Rattle.coefficients.specs.BlockSteps.{place_below, zigzag_below}
use Rattle.coefficients.specs.Block.{zigzag, probability_place, block}
use Rattle.residual.proofs.fast.read_block.Statement.{statement}
use Rattle.residual.proofs.fast.read_block.Tie as tie

abbrev invariant_loop : tie.invariant-loop-n
invariant_loop s norms table places k ctx out₀ spots zigzag next₀ n₀ here₀ reads₀ out next n here reads = Blocking s table k.kind k.q0 k.q1 (block table k.kind k.q0 k.q1 ctx k.first (spots_of out₀ spots.at spots.step)) next₀ spots.at spots.step out₀ k.first n here reads next out
    × Ranged next

abbrev decreases_loop : tie.decreases-loop-n
decreases_loop s norms table places k ctx out₀ spots zigzag next₀ n₀ here₀ reads₀ out next n here reads = 16 - n

first-place-requires : tie.Need-first_place-here-requires invariant_loop decreases_loop
first-place-requires c κs = c.requires.1.0.1

loop-holds : tie.Need-loop-n-init invariant_loop decreases_loop
loop-holds c = (blocking_start c.args.s.now c.args.table.now c.args.k.kind c.args.k.q0 c.args.k.q1 c.requires.1.0.1.1.0 c.requires.1.0.1.1.1 c.first_place-here.ensures c.requires.1.1.0 c.requires.1.1.1, c.requires.0.1.1)

fill-requires : tie.Need-fill-full-requires invariant_loop decreases_loop
fill-requires c κs = tt

shared-slice-read-bit : tie.Need-bounds-table-here invariant_loop decreases_loop
shared-slice-read-bit c = omega (arith, blocking_inside _ _ _ _ _ _ _ _ _ _ _ c.loop-n.invariant.0 c.requires.1.0.0 c.requires.1.0.1.0)

bit-requires : tie.Need-bit-e-requires invariant_loop decreases_loop
bit-requires c κs = (c.requires.0.1.0, ranged_fill _ c.fill-full.ensures c.loop-n.invariant.1)

sub-t28 : tie.Need-overflow_sub-result invariant_loop decreases_loop
sub-t28 c = c.loop-n.invariant.0.low

add-t30 : tie.Need-overflow_add-result invariant_loop decreases_loop
add-t30 c = record { fits = omega (arith, c.loop-n.invariant.0.most, c.loop-n.invariant.0.high) }

add-t31 : tie.Need-overflow_add-result-then-not-e invariant_loop decreases_loop
add-t31 c = record { fits = omega (arith, c.loop-n.invariant.0.most, c.loop-n.invariant.0.high) }

same_length : tie.Need-shape_of-out-then-not-e invariant_loop decreases_loop
same_length c = blocking_long _ _ _ _ _ _ _ _ _ _ _ c.loop-n.invariant.0

returns : tie.Need-returns-then-not-e invariant_loop decreases_loop
returns c = (blocking_stops _ _ _ _ _ _ _ _ _ _ _ c.requires.1.1.0 c.requires.1.1.1 c.loop-n.invariant.0 (λ qi. (c.shared_slice_known-1.given qi).fits) (c.shared_slice_known-2-1.given c.loop-n.here).fits c.loop-n-test.true c.fill-full.ensures c.bit-e.ensures.0 (block c.args.table.now c.args.k.kind c.args.k.q0 c.args.k.q1 c.args.ctx c.args.k.first) refl (not-true _ c.if-not-e.true), (omega (arith, c.loop-n.invariant.0.most, c.loop-n-test.true), c.bit-e.ensures.1))

pass-zeros-requires : tie.Need-pass_zeros-z-requires invariant_loop decreases_loop
pass-zeros-requires c κs = ((c.requires.0.0, c.requires.1.0.0), ((c.requires.1.0.1.0, (c.loop-n-test.true, blocking_inside _ _ _ _ _ _ _ _ _ _ _ c.loop-n.invariant.0 c.requires.1.0.0 c.requires.1.0.1.0)), (c.requires.0.1.0, c.bit-e.ensures.1)))

sub-t32 : tie.Need-overflow_sub-result-then-z-eq16 invariant_loop decreases_loop
sub-t32 c = omega (arith, c.requires.1.0.1.1.1)

add-t34 : tie.Need-overflow_add-result-then-z-eq16 invariant_loop decreases_loop
add-t34 c = record { fits = omega (arith, c.loop-n.invariant.0.most, c.loop-n.invariant.0.high) }

add-t35 : tie.Need-overflow_add-result-then-z-eq16-2 invariant_loop decreases_loop
add-t35 c = record { fits = omega (arith, c.loop-n.invariant.0.most, c.loop-n.invariant.0.high) }

same-length-2 : tie.Need-shape_of-out-then-z-eq16 invariant_loop decreases_loop
same-length-2 c = blocking_long _ _ _ _ _ _ _ _ _ _ _ c.loop-n.invariant.0

returns-2 : tie.Need-returns-then-z-eq16 invariant_loop decreases_loop
returns-2 c = (blocking_zeros _ _ _ _ _ _ _ _ _ _ _ c.requires.1.1.0 c.requires.1.1.1 c.loop-n.invariant.0 (λ qi. (c.shared_slice_known-1.given qi).fits) (c.shared_slice_known-2-1.given c.loop-n.here).fits c.loop-n-test.true c.fill-full.ensures c.bit-e.ensures.0 c.pass_zeros-z.ensures.0 (block c.args.table.now c.args.k.kind c.args.k.q0 c.args.k.q1 c.args.ctx c.args.k.first) refl (not-false _ c.if-not-e.false) c.if-z-eq16.true, (omega (arith, c.loop-n.invariant.0.most, c.loop-n-test.true), c.pass_zeros-z.ensures.1))

-- a number follows the zeros
numbered : (c : tie.Else-z-eq16 invariant_loop decreases_loop) → c.pass_zeros-z.result.n < 16
numbered c = omega (arith, c.pass_zeros-z.ensures.0.high, c.if-z-eq16.false)

read-number-requires : tie.Need-read_number-v-requires invariant_loop decreases_loop
read-number-requires c κs = (c.pass_zeros-z.ensures.0.inside (numbered c), (c.requires.0.1.0, c.pass_zeros-z.ensures.1))

-- where the probabilities of the position after it stand
then : (c : tie.After-read_number-v invariant_loop decreases_loop) → c.pass_zeros-z.result.ahead + c.read_number-v.result.near ≡ probability_place c.args.k.kind (c.pass_zeros-z.result.n + 1) c.read_number-v.ensures.0.ctx
then c = place_near _ _ _ c.read_number-v.ensures.0.place (place_after _ _ (numbered c.before) refl (c.pass_zeros-z.ensures.0.ahead (numbered c.before)))

quantizer-requires : tie.Need-quantizer-requires invariant_loop decreases_loop
quantizer-requires c κs = tt

signed-requires : tie.Need-signed-d-requires invariant_loop decreases_loop
signed-requires c κs = c.read_number-v.ensures.0.small

spot-requires : tie.Need-spot-requires invariant_loop decreases_loop
unfolding zigzag
spot-requires c κs = (numbered c.before.before.before.before.before.before, zigzag_below)

-- the place of a number lies in the list
inside : (c : tie.After-spot invariant_loop decreases_loop) → ((c.args.spots.at + c.args.spots.step * c.spot.result) < length c.loop-n.out)
inside c =
    omega (arith, step_last c.args.spots.step c.spot.ensures.1, c.requires.1.1.1, blocking_long _ _ _ _ _ _ _ _ _ _ _ c.loop-n.invariant.0)

long : (c : tie.After-spot invariant_loop decreases_loop) → length c.loop-n.out < 2 ^ 62
long c =
    omega (arith, c.well_formed.1.1.1.1.1.1.1.0, blocking_long _ _ _ _ _ _ _ _ _ _ _ c.loop-n.invariant.0)

mul-value : tie.Need-overflow_mul-value invariant_loop decreases_loop
mul-value c = record { fits = omega (arith, inside c.before, long c.before) }

add-value : tie.Need-overflow_add-value invariant_loop decreases_loop
add-value c = record { fits = omega (arith, inside c.before.before, long c.before.before) }

mul-value-2 : tie.Need-offset_bounds-out-spots invariant_loop decreases_loop
mul-value-2 c = omega (arith, inside c.before.before, long c.before.before)

slice-set-from-value : tie.Need-bounds-out-spots invariant_loop decreases_loop
slice-set-from-value c = inside c.before.before

add_reads : tie.Need-overflow_add-reads invariant_loop decreases_loop
add_reads c = record { fits = omega (arith, c.loop-n.invariant.0.most, c.loop-n.invariant.0.high, c.read_number-v.ensures.0.least) }

add-here : tie.Need-overflow_add-here invariant_loop decreases_loop
add-here c = record { fits = omega (arith, then c.before.before.before.before.before.before.before.before.before.before.before, place_below c.args.k.kind (c.pass_zeros-z.result.n + 1) c.read_number-v.ensures.0.ctx c.requires.1.0.1.0 c.read_number-v.ensures.0.few) }

add-n : tie.Need-overflow_add-n invariant_loop decreases_loop
add-n c = record { fits = omega (arith, numbered c.before.before.before.before.before.before.before.before.before.before.before.before.before.before) }

loop-less : tie.Need-loop-n-smaller invariant_loop decreases_loop
loop-less c = omega (arith, numbered c.before.before.before.before.before.before.before.before.before.before.before.before.before.before, c.pass_zeros-z.ensures.0.low)

loop-again : tie.Need-loop-n-preserved invariant_loop decreases_loop
unfolding zigzag
loop-again c = (blocking_number _ _ _ _ _ _ _ _ _ _ _ c.requires.1.1.0 c.requires.1.1.1 c.loop-n.invariant.0 (λ i. (c.shared_slice_known-1.given i).fits) (c.shared_slice_known-2-1.given c.loop-n.here).fits c.loop-n-test.true c.fill-full.ensures c.bit-e.ensures.0 c.pass_zeros-z.ensures.0 (not-false _ c.if-not-e.false) (numbered c.before.before.before.before.before.before.before.before.before.before.before.before.before.before) c.read_number-v.ensures.0 (then c.before.before.before.before.before.before.before.before.before.before.before.before.before) c.quantizer.ensures c.signed-d.ensures.0 c.signed-d.ensures.1.0 c.signed-d.ensures.1.1 c.spot.ensures.0, ranged_half c.signed-d.ensures.0 c.read_number-v.ensures.1)

sub-t43 : tie.Need-overflow_sub-result-2 invariant_loop decreases_loop
sub-t43 c = c.loop-n.invariant.0.low

add-t45 : tie.Need-overflow_add-result-2 invariant_loop decreases_loop
add-t45 c = record { fits = omega (arith, c.loop-n.invariant.0.most, c.loop-n.invariant.0.high) }

same-length-3 : tie.Need-shape_of-out invariant_loop decreases_loop
same-length-3 c = blocking_long _ _ _ _ _ _ _ _ _ _ _ c.loop-n.invariant.0

returns-3 : tie.Need-returns invariant_loop decreases_loop
returns-3 c = (blocking_end _ _ _ _ _ _ _ _ _ _ _ c.requires.1.1.0 c.requires.1.1.1 c.loop-n.invariant.0 (block c.args.table.now c.args.k.kind c.args.k.q0 c.args.k.q1 c.args.ctx c.args.k.first) refl c.loop-n-test.false, (omega (arith, c.loop-n.invariant.0.most, c.loop-n.invariant.0.high), c.loop-n.invariant.1))

pub read_block_spec : {M : Type 1} → statement M
read_block_spec = tie.close (tie.spec invariant_loop decreases_loop first-place-requires loop-holds fill-requires shared-slice-read-bit bit-requires sub-t28 add-t30 add-t31 same_length returns pass-zeros-requires sub-t32 add-t34 add-t35 same-length-2 returns-2 read-number-requires quantizer-requires signed-requires spot-requires mul-value add-value mul-value-2 slice-set-from-value add_reads add-here add-n loop-less loop-again sub-t43 add-t45 same-length-3 returns-3)
