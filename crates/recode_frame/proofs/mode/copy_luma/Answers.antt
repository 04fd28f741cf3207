use Rattle.numbers.specs.Words.{arith, refl, lit<, lit≤, not-false, not-true}
use Rattle.modes.specs.Modes.{y_tree}
use Rattle.recode_frame.specs.ModeCopies.{luma_small, luma_large, constant_modes}
use Rattle.recode_frame.specs.TreeLaws.{luma_table}
use Rattle.recode_frame.proofs.mode.copy_luma.Goals as goal

pub copy_sixteen-requires : goal.copy_sixteen-requires
copy_sixteen-requires c = c.requires

pub returns-then-not-large : goal.returns-then-not-large
returns-then-not-large c = (luma_small _ _ c.args.large (not-true _ c.if-not-large.true-raw) c.copy_sixteen.ensures.0, c.copy_sixteen.ensures.1)

pub copy_tree-m-requires : goal.copy_tree-m-requires
copy_tree-m-requires c = record { leading = (luma_table refl).leading; probs_nonzero = (lit< tt, lit≤ tt) }

pub returns : goal.returns
returns c =
    let t = luma_table {n = 3} refl in
    (luma_large c.args.top.now c.args.left.now c.args.large (not-false _ c.if-not-large.false-raw) (c.copy_tree-m.ensures.0 y_tree t.led), constant_modes (omega (arith, c.copy_tree-m.ensures.1 4 (lit< tt) t.leaves)))
