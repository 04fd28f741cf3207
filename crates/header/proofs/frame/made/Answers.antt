use Rattle.numbers.specs.Words.{◌∙◌, ap, back, up_to, w32}
use Rattle.header.specs.FrameLaws.{frame_is}
use Rattle.header.proofs.frame.made.Goals as goal

pub returns : goal.returns
returns c = frame_is _ c.six.ensures c.six-2.ensures c.six-3.ensures c.six-4.ensures c.levels.ensures c.levels-2.ensures (c.clamp_to.ensures ∙ ap (up_to 255) (back w32 c.clamp_to-arg-1.given)) c.announced_by.ensures
