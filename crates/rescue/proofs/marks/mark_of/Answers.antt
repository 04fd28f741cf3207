use Rattle.rescue.specs.RescueLaws.{mark_whole, mark_modes, mark_grey}
use Rattle.rescue.proofs.marks.mark_of.Goals as goal

pub returns-then-i-whole : goal.returns-then-i-whole
returns-then-i-whole c = mark_whole _ _ _ c.if-i-whole.true

pub returns-then-i-saved : goal.returns-then-i-saved
returns-then-i-saved c = mark_modes _ _ _ c.if-i-whole.false c.if-i-saved.true

pub returns : goal.returns
returns c = mark_grey _ _ _ c.if-i-whole.false c.if-i-saved.false
