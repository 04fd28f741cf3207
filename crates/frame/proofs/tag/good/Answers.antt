use Rattle.frame.specs.Tag.{tag_fine}
use Rattle.frame.proofs.tag.good.Goals as goal

pub returns : goal.returns
unfolding tag_fine
returns c = rw (c.three-tag.ensures.0, c.byte-first.ensures.0, c.byte-second.ensures.0, c.byte-third.ensures.0, c.width-across.ensures.0, c.height-down.ensures.0)
