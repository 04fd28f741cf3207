use Rattle.numbers.specs.Words.{◌<◌, arith}
use Rattle.modes.specs.ModesLaws.{above_mode, left_mode}
use Rattle.modes.proofs.Steps.{coding_start, coding_next, coding_end}
use Rattle.modes.proofs.quick.sixteen.Goals as goal

pub loop-i-init : goal.loop-i-init
loop-i-init c = coding_start _ _ _ _

pub block-mode-requires : goal.block-mode-requires
block-mode-requires c =
    let u : c.mode_above-up.result < 10 = rw c.mode_above-up.ensures (above_mode _ _ _ c.requires.0 c.loop-i.invariant.each) in
    let v : c.mode_left-by.result < 10 = rw c.mode_left-by.ensures (left_mode _ _ _ c.requires.1 c.loop-i.invariant.each) in
    record { top_bound = (omega arith, omega arith); all_value = c.all_probabilities-all.ensures }

pub loop-i-preserved : goal.loop-i-preserved
loop-i-preserved c = coding_next _ _ _ _ c.loop-i.invariant c.loop-i-test.true c.mode_above-up.ensures c.mode_left-by.ensures c.block-mode.ensures.0 c.block-mode.ensures.1

pub returns : goal.returns
returns c = coding_end _ _ _ _ c.loop-i.invariant c.loop-i-test.false
