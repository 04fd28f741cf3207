use Rattle.modes.specs.ModesLaws.{above_first, above_later}
use Rattle.modes.proofs.small.mode_above.Goals as goal

pub returns-then-i-lt4 : goal.returns-then-i-lt4
returns-then-i-lt4 c = above_first _ _ _ c.if-i-lt4.true

pub returns : goal.returns
returns c = above_later _ _ _ c.if-i-lt4.false
