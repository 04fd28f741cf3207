use Rattle.numbers.specs.Words.{refl, rules}
use Rattle.lent.specs.RecordsLaws.{read_place, read_stored}
use Rattle.lent.proofs.records.read.Goals as goal

pub returns-then-mem-width : goal.returns-then-mem-width
returns-then-mem-width c = read_place _ _ _ c.requires.1 c.if-mem-width.true

pub returns : goal.returns
returns c = read_stored _ _ _ (search rules) (search rules) c.start-at.ensures.0 refl c.store.ensures
