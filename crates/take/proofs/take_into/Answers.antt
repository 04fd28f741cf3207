use Rattle.frame.specs.TakeLaws.{into_length, into_stored, into_refused}
use Rattle.numbers.specs.Words.{rules}
use Rattle.take.proofs.take_into.Goals as goal

pub returns-then-header-ne-ENTRY_COUNT : goal.returns-then-header-ne-ENTRY_COUNT
returns-then-header-ne-ENTRY_COUNT c = into_length _ _ c.refused.ensures c.if-header-ne-ENTRY_COUNT.true

pub returns-then-answer-eq0 : goal.returns-then-answer-eq0
returns-then-answer-eq0 c = into_stored _ _ c.take-t.ensures c.store.ensures c.if-header-ne-ENTRY_COUNT.false (search rules) c.if-answer-eq0.true

pub returns-else-answer-eq0 : goal.returns-else-answer-eq0
returns-else-answer-eq0 c = into_refused _ _ c.take-t.ensures c.if-header-ne-ENTRY_COUNT.false c.if-answer-eq0.false
