-- `large_square` meets its contract: the square is put into the plane, then each residual added.
use Rattle.planes.specs.PaintLaws.{length_rows}
use Rattle.planes.specs.Places.{quarter, size_sides}
use Rattle.planes.specs.PiecesLaws.{square_put}
use Rattle.planes.proofs.blocks.large_square.Goals as goal

pub predict-requires : goal.predict-requires
predict-requires c = record { square = c.requires.square; size = c.requires.size; mode_bound = c.requires.mode_bound }

pub add_blocks-requires : goal.add_blocks-requires
add_blocks-requires c = record { square = rw (c.predict.ensures, length_rows, quarter c.requires.size) c.requires.square; block_sides = size_sides c.requires.size; ready = rw (quarter c.requires.size) c.requires.ready }

pub returns : goal.returns
returns c = record { p_after = square_put _ _ _ _ _ _ _ c.requires.size c.requires.square c.predict.ensures (rw (quarter c.requires.size) at c.add_blocks.ensures.p_after); first_fit = c.add_blocks.ensures.first_fit }
