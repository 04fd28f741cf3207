use Rattle.numbers.specs.Words.{◌%◌, mod-lt, arith, refl, sym, subst}
use Rattle.modes.specs.Modes.{Modes}
use Rattle.recode_frame.specs.ModeCopies.{march_start, march_next, march_end, left_modes}
use Rattle.recode_frame.proofs.first.copy_all.Goals as goal

pub loop-k-init : goal.loop-k-init
loop-k-init c = march_start _ _ _ _ _ _

pub nonzero_rem-column : goal.nonzero_rem-column
nonzero_rem-column c = omega (arith, c.requires.0)

pub offset_bounds-tops-column : goal.offset_bounds-tops-column
offset_bounds-tops-column c = omega (arith, mod-lt c.loop-k.k {m = c.args.wide} c.requires.0, c.requires.1)

pub bounds-tops-column : goal.bounds-tops-column
bounds-tops-column c = omega (arith, mod-lt c.loop-k.k {m = c.args.wide} c.requires.0, c.requires.1)

pub copy_modes-m-requires : goal.copy_modes-m-requires
copy_modes-m-requires c = (c.loop-k.invariant.rows (c.loop-k.k % c.args.wide), subst Modes (sym c.beside-aside.ensures) (left_modes (c.loop-k.k % c.args.wide) c.loop-k.left c.loop-k.invariant.lefts))

pub offset_bounds-tops-column-in-loop-k : goal.offset_bounds-tops-column-in-loop-k
offset_bounds-tops-column-in-loop-k c = omega (arith, mod-lt c.loop-k.k {m = c.args.wide} c.requires.0, c.requires.1)

pub bounds-tops-column-in-loop-k : goal.bounds-tops-column-in-loop-k
bounds-tops-column-in-loop-k c = omega (arith, mod-lt c.loop-k.k {m = c.args.wide} c.requires.0, c.requires.1)

pub loop-k-preserved : goal.loop-k-preserved
loop-k-preserved c = march_next c.loop-k.invariant c.loop-k-test.true refl c.beside-aside.ensures c.copy_modes-m.ensures.0 c.copy_modes-m.ensures.1 c.copy_modes-m.auto.out c.bottom.ensures c.right-left.ensures refl

pub shape_of-out : goal.shape_of-out
shape_of-out c = c.loop-k.invariant.long

pub returns : goal.returns
returns c = march_end c.loop-k.invariant c.loop-k-test.false
