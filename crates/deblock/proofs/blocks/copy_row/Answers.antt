-- `copy_row` meets its contract: a sample a turn.
use Rattle.numbers.specs.Words.{arith, ◌≡◌, sym, copied_none, copied_next, length_copied}
use Rattle.deblock.proofs.blocks.copy_row.Goals as goal

pub loop-k-init : goal.loop-k-init
loop-k-init c = (omega arith, sym (copied_none _ _ _ _))

pub overflow_add-to : goal.overflow_add-to
overflow_add-to c = omega (arith, c.requires.1)

pub bounds-from-start : goal.bounds-from-start
bounds-from-start c = omega (arith, c.requires.1)

pub overflow_add-to-in-loop-k : goal.overflow_add-to-in-loop-k
overflow_add-to-in-loop-k c = omega (arith, c.requires.0)

pub bounds-to-at : goal.bounds-to-at
bounds-to-at c = rw (c.loop-k.invariant.1, length_copied) (omega (arith, c.requires.0))

pub loop-k-preserved : goal.loop-k-preserved
loop-k-preserved c = (omega arith, rw c.loop-k.invariant.1 (copied_next _ _ _ _ _))

pub shape_of-to : goal.shape_of-to
shape_of-to c = rw c.loop-k.invariant.1 (length_copied _ _ _ _ _)

pub returns : goal.returns
returns c = let e : c.loop-k.k ≡ c.args.n = omega arith in rw e at c.loop-k.invariant.1
