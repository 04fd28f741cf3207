use Rattle.numbers.specs.Words.{◌<◌, arith}
use Rattle.reader.specs.Reading.{to_read}
use Rattle.modes.specs.ModesLaws.{above_mode, left_mode, small_modes_within}
use Rattle.modes.proofs.Careful.{going_start, going_next, going_missing, going_end, told}
use Rattle.modes.proofs.small.sixteen.Goals as goal

pub loop-i-init : goal.loop-i-init
loop-i-init c = going_start _ _ c.requires.valid

pub block-c-requires : goal.block-c-requires
block-c-requires c =
    let u : c.mode_above-up.result < 10 = rw c.mode_above-up.ensures (above_mode _ _ _ c.requires.modes.0 c.loop-i.invariant.each) in
    let v : c.mode_left-by.result < 10 = rw c.mode_left-by.ensures (left_mode _ _ _ c.requires.modes.1 c.loop-i.invariant.each) in
    record { valid = c.loop-i.invariant.valid; top_bound = (u, v); all_value = c.all_probabilities-all.ensures }

pub overflow_add-reads : goal.overflow_add-reads
overflow_add-reads c = omega (arith, c.loop-i.invariant.few, c.loop-i.invariant.sum, c.block-c.ensures.1.1)

pub returns-in_default : goal.returns-in_default
returns-in_default c = told to_read (small_modes_within _ _) (going_missing c.loop-i.invariant c.mode_above-up.ensures c.mode_left-by.ensures c.block-c.ensures c.loop-i-test.true c.in_default.is)

pub loop-i-preserved : goal.loop-i-preserved
loop-i-preserved c = going_next c.loop-i.invariant c.mode_above-up.ensures c.mode_left-by.ensures c.block-c.ensures c.loop-i-test.true (λ k. (c.type_inv.s k).fits) c.in-Ok.is

pub returns : goal.returns
returns c = told to_read (small_modes_within _ _) (going_end c.loop-i.invariant c.loop-i-test.false)
