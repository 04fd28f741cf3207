use Rattle.key_frame.specs.KeyFrameLaws.{shown_is}
use Rattle.key_frame.proofs.show.Goals as goal

pub returns : goal.returns
returns c = shown_is _ _ _ _ c.decode-d.ensures.0 c.decode-d.ensures.1 c.filter.ensures c.number.ensures c.finished.ensures
