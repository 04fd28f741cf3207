-- `table_rows` meets its contract: one test of the code's whole table.
use Rattle.numbers.specs.Words.{refl}
use Rattle.modes.specs.Table.{rfc_table}
use Rattle.modes.specs.TableLaws.{table_is}
use Rattle.modes.proofs.small.table_rows.Goals as goal

pub returns : goal.returns
unfolding rfc_table
returns c = table_is _ refl refl
