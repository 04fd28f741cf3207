use Rattle.numbers.specs.Words.{rules}
use Rattle.column.specs.ColumnLaws.{packed_four}
use Rattle.column.proofs.pack_modes.Goals as goal

pub returns : goal.returns
returns c = packed_four _ (search rules) (c.from-a.ensures, search rules) (c.from-b.ensures, search rules) (c.from-c.ensures, search rules) (c.from-d.ensures, search rules)
