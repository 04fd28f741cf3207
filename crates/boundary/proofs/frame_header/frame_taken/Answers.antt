use Rattle.boundary.specs.FrameCallsLaws.{frame_refused_lem, frame_called}
use Rattle.boundary.proofs.frame_header.frame_taken.Goals as goal

pub returns-then-tile-ne-TILE_NUMBERS : goal.returns-then-tile-ne-TILE_NUMBERS
returns-then-tile-ne-TILE_NUMBERS c = frame_refused_lem _ _ _ c.if-tile-ne-TILE_NUMBERS.true

pub returns : goal.returns
returns c = frame_called _ _ _ c.if-tile-ne-TILE_NUMBERS.false c.take_into-a.ensures c.put_taken.ensures
