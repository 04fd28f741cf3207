-- `across` meets its contract: a sample a turn.
use Rattle.numbers.specs.Words.{arith, refl, filled_none, filled_next, filled_all}
use Rattle.deblock.specs.Deblock.{across_of}
use Rattle.deblock.proofs.edges.across.Goals as goal

pub loop-k-init : goal.loop-k-init
loop-k-init c = filled_none _ 8 _ refl

pub overflow_add-e : goal.overflow_add-e
overflow_add-e c = omega (arith, c.requires)

pub bounds-t-i : goal.bounds-t-i
bounds-t-i c = omega (arith, c.requires)

pub loop-k-preserved : goal.loop-k-preserved
loop-k-preserved c = filled_next _ (omega arith) refl c.loop-k.invariant

pub returns : goal.returns
unfolding across_of
returns c = filled_all (omega arith) c.loop-k.invariant
