use Rattle.numbers.specs.Words.{rules}
use Rattle.column.specs.ColumnLaws.{packed_nine}
use Rattle.column.proofs.pack_flags.Goals as goal

pub returns : goal.returns
returns c = packed_nine _ (search rules) (c.from-a.ensures, search rules) (c.from-b.ensures, search rules) (c.from-c.ensures, search rules) (c.from-d.ensures, search rules) (c.from-e.ensures, search rules) (c.from-f.ensures, search rules) (c.from-g.ensures, search rules) (c.from-h.ensures, search rules) (c.from-i.ensures, search rules)
