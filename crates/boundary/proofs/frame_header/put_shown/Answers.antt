use Rattle.boundary.specs.FrameCallsLaws.{tile_taken, tile_kept}
use Rattle.boundary.proofs.frame_header.put_shown.Goals as goal

pub returns-then-a-eq0 : goal.returns-then-a-eq0
returns-then-a-eq0 c = tile_taken _ _ c.if-a-eq0.true c.put_taken.ensures

pub returns-else-a-eq0 : goal.returns-else-a-eq0
returns-else-a-eq0 c = tile_kept _ _ c.if-a-eq0.false
