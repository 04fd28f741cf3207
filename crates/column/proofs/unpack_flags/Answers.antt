use Rattle.column.specs.ColumnLaws.{nine_flags}
use Rattle.column.proofs.unpack_flags.Goals as goal

pub returns : goal.returns
returns c = nine_flags _ c.four_flags-a.ensures c.four_flags-b.ensures
