use Rattle.numbers.specs.Words.{refl, filled_none, filled_next, filled_all, rules}
use Rattle.casefile.specs.CaseFile.{case_spans}
use Rattle.casefile.proofs.layout.spans.Goals as goal

pub loop-i-init : goal.loop-i-init
loop-i-init c = filled_none _ 8 _ refl

pub loop-i-preserved : goal.loop-i-preserved
loop-i-preserved c = filled_next _ (search rules) c.slot.ensures c.loop-i.invariant

pub returns : goal.returns
unfolding case_spans
returns c = filled_all (search rules) c.loop-i.invariant
