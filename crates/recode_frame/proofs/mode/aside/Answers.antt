use Rattle.modes.specs.ModesLaws.{left_first, left_later}
use Rattle.recode_frame.proofs.mode.aside.Goals as goal

pub returns-then-i-eq0 : goal.returns-then-i-eq0
returns-then-i-eq0 c = left_first _ _ _ c.if-i-eq0.true

pub returns : goal.returns
returns c = left_later _ _ _ c.if-i-eq0.false
