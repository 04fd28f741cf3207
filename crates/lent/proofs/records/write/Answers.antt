use Rattle.numbers.specs.Words.{not-false, not-true, rules}
use Rattle.lent.specs.RecordsLaws.{write_place, write_values, write_stored}
use Rattle.lent.proofs.records.write.Goals as goal

pub returns-then-mem-width : goal.returns-then-mem-width
returns-then-mem-width c = write_place _ _ _ _ _ c.if-mem-width.true

pub returns-then-not-fine : goal.returns-then-not-fine
returns-then-not-fine c = write_values _ _ _ _ _ (not-true _ c.if-not-fine.true-raw)

pub returns : goal.returns
returns c = write_stored _ _ _ _ _ (search rules) (not-false _ c.if-not-fine.false-raw) c.start-at.ensures.0 c.store.ensures
