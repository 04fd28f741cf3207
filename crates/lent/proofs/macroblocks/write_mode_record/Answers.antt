use Rattle.numbers.specs.Words.{sym, ap₂, ◌&&◌, rules}
use Rattle.lent.specs.RecordsLaws.{written_as}
use Rattle.lent.proofs.macroblocks.write_mode_record.Goals as goal

pub returns : goal.returns
returns c = written_as _ _ _ (search rules) (ap₂ ◌&&◌ c.kinds_fine.ensures c.each_below.ensures) c.record_of-bytes.ensures c.write.ensures
