use Rattle.numbers.specs.Words.{refl}
use Rattle.column.specs.Column.{digits_of}
use Rattle.column.proofs.unpack_modes.Goals as goal

pub returns : goal.returns
unfolding digits_of
returns c = refl
