use Rattle.numbers.specs.Words.{arith, sym, ◌∙◌, ap}
use Rattle.casefile.specs.CaseFile.{start_at}
use Rattle.casefile.specs.CaseFileLaws.{start_none, start_next}
use Rattle.casefile.proofs.layout.start_at.Goals as goal

pub loop-j-init : goal.loop-j-init
loop-j-init c = (rw c.count.ensures.0 (start_none _), omega arith)

pub loop-j-preserved : goal.loop-j-preserved
loop-j-preserved c = (rw (c.loop-j.invariant.0, c.length_at-at.ensures.0) (sym (start_next _ _)), omega arith)

pub returns : goal.returns
returns c = c.loop-j.invariant.0 ∙ ap (start_at _) (omega arith)
