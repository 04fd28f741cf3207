-- `small` meets its contract. The loop's invariant: the flag is the test of the numbers passed.
use Rattle.numbers.specs.Words.{◌<◌, ◌^◌, arith, refl, ◌∙◌, ap, get_or, pos, mag, back, w32, rules}
use Rattle.coefficients.specs.BlockSteps.{small_next}
use Rattle.coefficients.specs.Block.{sixteen_bits}
use Rattle.coefficients.proofs.block.small.Goals as goal

pub loop-v-init : goal.loop-v-init
unfolding sixteen_bits
loop-v-init c = (omega arith, refl)

pub loop-v-preserved : goal.loop-v-preserved
loop-v-preserved c =
    let m : mag (get_or c.args.out.now c.loop-v.v-index (pos 0)) < 2 ^ 31 = search rules in
    (omega arith, small_next _ _ c.loop-v.invariant.1 (back w32 m))

pub returns : goal.returns
returns c = c.loop-v.invariant.1 ∙ ap (sixteen_bits c.args.out.now) (omega arith)
