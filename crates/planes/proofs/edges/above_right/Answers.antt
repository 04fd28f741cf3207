-- `above_right` meets its contract, at the right edge of the plane and before it.
use Rattle.numbers.specs.Words.{arith, eq-eqb, ne_eqb}
use Rattle.planes.specs.Paint.{above_right_of}
use Rattle.planes.specs.Places.{reach_above}
use Rattle.planes.proofs.edges.above_right.Goals as goal

pub returns-then-x-w : goal.returns-then-x-w
unfolding above_right_of
returns-then-x-w c = rw (eq-eqb _ _ c.if-x-w.true, c.near.ensures)

pub four_above-requires : goal.four_above-requires
four_above-requires c = record { reach = reach_above c.requires.square (omega (arith, c.requires.x_bound (omega arith))); at = c.place.ensures }

pub returns : goal.returns
unfolding above_right_of
returns c = rw (ne_eqb _ _ c.if-x-w.false, c.four_above.ensures)
