use Rattle.numbers.specs.Words.{arith, sym}
use Rattle.casefile.specs.MeasuresLaws.{sum_none, sum_next, sum_all}
use Rattle.casefile.proofs.measures.sum.Goals as goal

pub loop-x-init : goal.loop-x-init
loop-x-init c = (sum_none _, omega arith)

pub loop-x-preserved : goal.loop-x-preserved
loop-x-preserved c = (rw (c.loop-x.invariant.0, c.from-s.ensures) (sym (sum_next _ _)), omega arith)

pub returns : goal.returns
returns c = sum_all _ c.loop-x.invariant.0 (omega arith)
