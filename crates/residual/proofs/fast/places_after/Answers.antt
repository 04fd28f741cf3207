use Rattle.numbers.specs.Words.{◌+◌, arith, refl, lit<, filled_none, filled_next, filled_all}
use Rattle.residual.specs.FastLaws.{bands_after, places_after_of, places_after_lem}
use Rattle.coefficients.specs.BlockSteps.{place_below}
use Rattle.residual.proofs.fast.places_after.Goals as goal

pub loop-i-init : goal.loop-i-init
loop-i-init c = filled_none _ 16 _ refl

pub overflow_add-places : goal.overflow_add-places
unfolding bands_after
overflow_add-places c = record { fits = omega (arith, places_after_lem c.args.kind c.loop-i.i c.loop-i-test.true, place_below c.args.kind (c.loop-i.i + 1) 0 c.requires (lit< tt)) }

pub loop-i-preserved : goal.loop-i-preserved
unfolding bands_after
loop-i-preserved c = filled_next _ c.loop-i-test.true (places_after_lem c.args.kind c.loop-i.i c.loop-i-test.true) c.loop-i.invariant

pub returns : goal.returns
unfolding places_after_of
returns c = filled_all c.loop-i-test.false c.loop-i.invariant
