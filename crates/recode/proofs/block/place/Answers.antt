use Rattle.numbers.specs.Words.{arith}
use Rattle.coefficients.specs.Block.{probability_place}
use Rattle.recode.proofs.block.place.Goals as goal

pub band-requires : goal.band-requires
band-requires c = record { table_value = c.requires.table_value; n_bound = c.requires.kind_bound.1 }

pub returns : goal.returns
unfolding probability_place
returns c = (rw c.band.ensures.0, omega (arith, c.band.ensures.1, c.requires.kind_bound))
