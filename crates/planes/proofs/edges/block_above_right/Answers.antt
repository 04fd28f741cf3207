-- `block_above_right` meets its contract, in the last column and before it.
use Rattle.numbers.specs.Words.{arith}
use Rattle.planes.specs.Paint.{block_above_right_of}
use Rattle.planes.specs.Places.{reach_above}
use Rattle.planes.proofs.edges.block_above_right.Goals as goal

pub returns-then-last : goal.returns-then-last
unfolding block_above_right_of
returns-then-last c = rw c.if-last.true

pub four_above-requires : goal.four_above-requires
four_above-requires c = record { reach = reach_above c.requires.lies.square (omega (arith, c.requires.x_bound c.if-last.false)); at = omega (arith, c.requires.lies.at) }

pub returns : goal.returns
unfolding block_above_right_of
returns c = rw (c.if-last.false, c.four_above.ensures)
