use Rattle.numbers.specs.Words.{arith}
use Rattle.casefile.specs.MeasuresLaws.{fnv_none, fnv_more, fnv_all}
use Rattle.casefile.proofs.measures.hash.Goals as goal

pub loop-x-init : goal.loop-x-init
loop-x-init c = fnv_none _

pub loop-x-preserved : goal.loop-x-preserved
loop-x-preserved c = fnv_more _ _ c.loop-x.invariant c.step-h.ensures

pub returns : goal.returns
returns c = fnv_all _ c.loop-x.invariant (omega arith)
