use Rattle.numbers.specs.Words.{arith, ◌∙◌}
use Rattle.casefile.specs.CaseFileLaws.{slot_past, slot_below}
use Rattle.casefile.proofs.layout.slot.Goals as goal

pub returns-then-n-i : goal.returns-then-n-i
returns-then-n-i c = slot_past _ _ (omega arith)

pub returns : goal.returns
returns c = c.span_at.ensures ∙ slot_below _ _ (omega arith)
