use Rattle.header.specs.FrameLaws.{announced_is}
use Rattle.header.proofs.frame.announced_by.Goals as goal

pub returns : goal.returns
returns c =
    announced_is _ c.present_at.ensures c.probability_at.ensures c.probability_at-2.ensures
    c.probability_at-3.ensures c.present_at-2.ensures c.probability_at-4.ensures
