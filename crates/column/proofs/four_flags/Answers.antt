use Rattle.numbers.specs.Words.{refl, rules}
use Rattle.column.specs.ColumnLaws.{four_flags_lem}
use Rattle.column.proofs.four_flags.Goals as goal

pub returns : goal.returns
returns c = four_flags_lem _ (search rules) refl
