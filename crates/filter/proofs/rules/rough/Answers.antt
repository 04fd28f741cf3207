-- `rough` meets its contract: none of the pairs before the kth fails.
use Rattle.numbers.specs.Words.{arith, sym, ◌∙◌, not-false, not-true}
use Rattle.filter.specs.Kernel.{rough_at}
use Rattle.filter.specs.KernelLaws.{first_here, first_later, first_end}
use Rattle.filter.proofs.rules.rough.Goals as goal

pub loop-k-init : goal.loop-k-init
loop-k-init c = (omega arith, omega arith)

pub returns-then-not-pair_smooth : goal.returns-then-not-pair_smooth
unfolding rough_at
returns-then-not-pair_smooth c = first_here _ _ c.loop-k.invariant.1 (sym c.pair_smooth.ensures ∙ not-true _ c.if-not-pair_smooth.true-raw)

pub loop-k-preserved : goal.loop-k-preserved
loop-k-preserved c = (omega arith, first_later _ _ (omega arith) c.loop-k.invariant.1 (sym c.pair_smooth.ensures ∙ not-false _ c.if-not-pair_smooth.false-raw))

pub returns : goal.returns
unfolding rough_at
returns c = sym (first_end _ c.loop-k.k (omega arith) c.loop-k.invariant.1)
