use Rattle.numbers.specs.Words.{rules}
use Rattle.lent.specs.RecordsLaws.{written_as}
use Rattle.lent.proofs.columns.write_column.Goals as goal

pub returns : goal.returns
returns c = written_as _ _ _ (search rules) c.context_fine.ensures c.pack-bytes.ensures c.write.ensures
