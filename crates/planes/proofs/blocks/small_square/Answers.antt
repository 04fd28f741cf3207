-- `small_square` meets its contract: what lies above and right is read before any sub-block is painted.
use Rattle.numbers.specs.Words.{refl, ◌∙◌}
use Rattle.planes.specs.PaintLaws.{square_small}
use Rattle.planes.proofs.blocks.small_square.Goals as goal

pub above_right-right-requires : goal.above_right-right-requires
above_right-right-requires c = record { square = c.requires.square; x_bound = c.requires.x_bound }

pub small_blocks-requires : goal.small_blocks-requires
small_blocks-requires c = record { square = c.requires.square; ready = c.requires.ready }

pub returns : goal.returns
returns c = record { p_after = c.small_blocks.ensures.p_after ∙ square_small _ _ _ _ _ _ _ _ _ refl refl c.above_right-right.ensures; first_fit = c.small_blocks.ensures.first_fit }
