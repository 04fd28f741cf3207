use Rattle.casefile.specs.CaseFileLaws.{entry_stored}
use Rattle.numbers.specs.Words.{refl, filled_none, filled_next, filled_all, rules}
use Rattle.casefile.specs.CaseFile.{case_header}
use Rattle.casefile.proofs.layout.header.Goals as goal

pub loop-i-init : goal.loop-i-init
loop-i-init c = filled_none _ 1096 _ refl

pub loop-i-preserved : goal.loop-i-preserved
loop-i-preserved c = filled_next _ (search rules) (entry_stored _ _ c.half.ensures c.signed.ensures) c.loop-i.invariant

pub returns : goal.returns
unfolding case_header
returns c = filled_all (search rules) c.loop-i.invariant
