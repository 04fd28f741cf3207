use Rattle.numbers.specs.Words.{◌+◌, arith, lit<}
use Rattle.residual.specs.FastLaws.{zeroing_start, zeroing_number, zeroing_end, zeroing_next, place_after}
use Rattle.residual.specs.SymbolsLaws.{ranged_fill}
use Rattle.coefficients.specs.BlockSteps.{place_below}
use Rattle.residual.proofs.fast.pass_zeros.Goals as goal

pub loop-n-init : goal.loop-n-init
loop-n-init c = (zeroing_start _ _ _ _ _ _ c.requires.kind_bound.1.0 c.requires.kind_bound.1.1, c.requires.norms_value.1)

pub place_after-ahead-requires : goal.place_after-ahead-requires
place_after-ahead-requires c = c.loop-n.invariant.0.below

pub overflow_add-at : goal.overflow_add-at
overflow_add-at c = record { fits = omega (arith, c.loop-n.invariant.0.inside, c.requires.places_value.1) }

pub bounds-table-at : goal.bounds-table-at
bounds-table-at c = omega (arith, c.loop-n.invariant.0.inside)

pub bit-z-requires : goal.bit-z-requires
bit-z-requires c = (c.requires.norms_value.0, c.loop-n.invariant.1)

pub returns-then-z : goal.returns-then-z
returns-then-z c = (zeroing_number _ _ _ _ _ _ c.loop-n.invariant.0 (λ i. (c.shared_slice_known-1.given i).fits) (c.shared_slice_known-2-1.given (c.loop-n.at + 1)).fits c.bit-z.ensures.0 c.if-z.true c.requires.places_value.0 c.place_after-ahead.ensures, c.bit-z.ensures.1)

pub returns-then-n-eq15 : goal.returns-then-n-eq15
returns-then-n-eq15 c = (zeroing_end _ _ _ _ _ _ c.loop-n.invariant.0 (λ i. (c.shared_slice_known-1.given i).fits) (c.shared_slice_known-2-1.given (c.loop-n.at + 1)).fits c.bit-z.ensures.0 c.if-z.false (omega (arith, c.if-n-eq15.true)), c.bit-z.ensures.1)

pub loop-n-smaller : goal.loop-n-smaller
loop-n-smaller c = omega (arith, c.loop-n.invariant.0.below)

pub loop-n-preserved : goal.loop-n-preserved
loop-n-preserved c =
    let e = place_after c.args.kind c.loop-n.n c.loop-n.invariant.0.below c.requires.places_value.0 c.place_after-ahead.ensures in
    (zeroing_next _ _ _ _ _ _ c.loop-n.invariant.0 (λ i. (c.shared_slice_known-1.given i).fits) (c.shared_slice_known-2-1.given (c.loop-n.at + 1)).fits c.bit-z.ensures.0 c.if-z.false (omega (arith, c.loop-n.invariant.0.below, c.if-n-eq15.false)) e (omega (arith, e, place_below c.args.kind (c.loop-n.n + 1) 0 c.requires.kind_bound.0 (lit< tt), c.requires.places_value.1)) c.fill-next.ensures, ranged_fill _ c.fill-next.ensures c.bit-z.ensures.1)

pub returns : goal.returns
returns c = absurd (omega (arith, c.loop-n.invariant.0.below, c.loop-n-test.false))
