-- `lane` meets its contract, row by row.
use Rattle.transform.specs.LanesLaws.{lane_rows}
use Rattle.transform.proofs.lanes.lane.Goals as goal

pub returns : goal.returns
returns c = lane_rows _ _ _ c.lane_row.ensures c.lane_row-2.ensures c.lane_row-3.ensures c.lane_row-4.ensures
