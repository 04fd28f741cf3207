use Rattle.numbers.specs.Words.{sym, ◌∙◌}
use Rattle.choices.specs.ChoicesLaws.{beside_none, beside_left}
use Rattle.choices.proofs.beside.beside.Goals as goal

pub returns-then-column-eq0 : goal.returns-then-column-eq0
returns-then-column-eq0 c = c.empty.ensures ∙ sym (beside_none _ _ c.if-column-eq0.true)

pub returns : goal.returns
returns c = beside_left _ _ c.if-column-eq0.false
