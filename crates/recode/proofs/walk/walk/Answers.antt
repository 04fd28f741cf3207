use Rattle.numbers.specs.Words.{arith, refl}
use Rattle.recode.specs.WalkCopies.{walking_start, walking_next, walking_end, pick_eight, blocks_most, some_wide}
use Rattle.recode.proofs.walk.walk.Goals as goal

pub overflow_mul-blocks : goal.overflow_mul-blocks
overflow_mul-blocks c = omega (arith, blocks_most c.args.tile.width c.args.tile.height c.requires.width_bound.0 c.requires.width_bound.1)

pub loop-k-init : goal.loop-k-init
loop-k-init c = walking_start _ _ _ _ _ _ c.openers-readers.ensures c.empty-left.ensures c.fresh-w.ensures

pub nonzero_div-k : goal.nonzero_div-k
nonzero_div-k c = omega (arith, some_wide _ _ _ c.loop-k-test.true)

pub offset_bounds-readers-p : goal.offset_bounds-readers-p
offset_bounds-readers-p c = omega (arith, pick_eight _ _ c.pick-p.ensures c.requires.width_bound.2)

pub bounds-readers-p : goal.bounds-readers-p
bounds-readers-p c = omega (arith, pick_eight _ _ c.pick-p.ensures c.requires.width_bound.2)

pub nonzero_rem-k : goal.nonzero_rem-k
nonzero_rem-k c = omega (arith, some_wide _ _ _ c.loop-k-test.true)

pub turn-m-requires : goal.turn-m-requires
turn-m-requires c = c.requires.table_len

pub offset_bounds-readers-p-in-loop-k : goal.offset_bounds-readers-p-in-loop-k
offset_bounds-readers-p-in-loop-k c = omega (arith, pick_eight _ _ c.pick-p.ensures c.requires.width_bound.2)

pub bounds-readers-p-in-loop-k : goal.bounds-readers-p-in-loop-k
bounds-readers-p-in-loop-k c = omega (arith, pick_eight _ _ c.pick-p.ensures c.requires.width_bound.2)

pub loop-k-preserved : goal.loop-k-preserved
loop-k-preserved c = walking_next c.loop-k.invariant c.loop-k-test.true c.part-first.ensures c.pick-p.ensures refl c.token.ensures c.turn-m.ensures c.turn-m.auto.columns c.turn-m.auto.out

pub shape_of-columns : goal.shape_of-columns
shape_of-columns c = c.loop-k.invariant.long

pub shape_of-out : goal.shape_of-out
shape_of-out c = c.loop-k.invariant.size

pub returns : goal.returns
returns c = walking_end c.loop-k.invariant c.loop-k-test.false
