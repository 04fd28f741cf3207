-- `put_six` meets its contract: a sample a turn.
use Rattle.numbers.specs.Words.{arith, ◌≡◌, sym}
use Rattle.deblock.specs.DeblockLaws.{laid_first, laid_next, length_laid}
use Rattle.deblock.proofs.edges.put_six.Goals as goal

pub loop-k-init : goal.loop-k-init
loop-k-init c = (omega arith, sym (laid_first _ _ _ _))

pub overflow_add-t-in-loop-k-2 : goal.overflow_add-t-in-loop-k-2
overflow_add-t-in-loop-k-2 c = omega (arith, c.requires)

pub bounds-t-i : goal.bounds-t-i
bounds-t-i c = rw (c.loop-k.invariant.1, length_laid) (omega (arith, c.requires))

pub loop-k-preserved : goal.loop-k-preserved
loop-k-preserved c = (omega arith, rw c.loop-k.invariant.1 (laid_next _ _ _ _ _))

pub shape_of-t : goal.shape_of-t
shape_of-t c = rw c.loop-k.invariant.1 (length_laid _ _ _ _ _)

pub returns : goal.returns
returns c = let e : c.loop-k.k ≡ 6 = omega arith in rw e at c.loop-k.invariant.1
