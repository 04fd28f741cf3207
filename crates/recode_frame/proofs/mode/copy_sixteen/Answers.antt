use Rattle.numbers.specs.Words.{◌<◌}
use Rattle.modes.specs.ModesLaws.{above_mode, left_mode}
use Rattle.recode_frame.specs.ModeCopies.{sixteen_start, sixteen_next, sixteen_end}
use Rattle.recode_frame.proofs.mode.copy_sixteen.Goals as goal

pub loop-i-init : goal.loop-i-init
loop-i-init c = sixteen_start _ _ _ _ _

pub copy_small-m-requires : goal.copy_small-m-requires
copy_small-m-requires c =
    let u : c.above-up.result < 10 = rw c.above-up.ensures (above_mode _ _ _ c.requires.0 c.loop-i.invariant.fine) in
    let v : c.aside-by.result < 10 = rw c.aside-by.ensures (left_mode _ _ _ c.requires.1 c.loop-i.invariant.fine) in
    record { up_bound = (u, v); all_value = c.all_probabilities-all.ensures }

pub loop-i-preserved : goal.loop-i-preserved
loop-i-preserved c = sixteen_next c.loop-i.invariant c.loop-i-test.true c.above-up.ensures c.aside-by.ensures c.copy_small-m.ensures.0 c.copy_small-m.ensures.1 c.copy_small-m.auto.out

pub shape_of-out : goal.shape_of-out
shape_of-out c = c.loop-i.invariant.long

pub returns : goal.returns
returns c = (sixteen_end c.loop-i.invariant c.loop-i-test.false, c.loop-i.invariant.fine)
