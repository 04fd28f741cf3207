use Rattle.modes.proofs.Steps.{last_high, last_low}
use Rattle.modes.proofs.quick.last.Goals as goal

pub returns-then-b : goal.returns-then-b
returns-then-b c = last_high _ _ _ _ c.even-b.ensures c.if-b.true

pub returns : goal.returns
returns c = last_low _ _ _ _ c.even-b.ensures c.if-b.false
