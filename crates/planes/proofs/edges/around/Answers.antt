-- `around` meets its contract: the thirteen samples one by one.
use Rattle.planes.specs.Paint.{four_above_of, four_left_of, around_of}
use Rattle.planes.specs.Places.{lies_over}
use Rattle.planes.proofs.edges.around.Goals as goal

pub four_above-a-requires : goal.four_above-a-requires
four_above-a-requires c = lies_over c.requires.lies

pub returns : goal.returns
unfolding four_above_of four_left_of around_of
returns c = rw (c.four_left-l.ensures, c.corner-c.ensures, c.four_above-a.ensures, c.block_above_right-r.ensures)
