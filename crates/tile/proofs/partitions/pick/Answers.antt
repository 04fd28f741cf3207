use Rattle.tile.specs.PartitionsLaws.{pick_none, pick_some}
use Rattle.tile.proofs.partitions.pick.Goals as goal

pub returns-then-count-eq0 : goal.returns-then-count-eq0
returns-then-count-eq0 c = pick_none _ _ c.if-count-eq0.true

pub returns : goal.returns
returns c = pick_some _ _ c.if-count-eq0.false
