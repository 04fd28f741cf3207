use Rattle.boundary.specs.FrameCallsLaws.{taken_put}
use Rattle.boundary.proofs.frame_header.put_taken.Goals as goal

pub returns : goal.returns
returns c = taken_put _ c.args.a c.from.ensures c.numbers.ensures c.put_numbers.ensures
