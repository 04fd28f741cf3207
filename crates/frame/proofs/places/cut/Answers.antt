use Rattle.frame.specs.PlacesLaws.{span_none, span_sized, span_last}
use Rattle.frame.proofs.places.cut.Goals as goal

pub returns-then-count-i : goal.returns-then-count-i
returns-then-count-i c = span_none _ _ _ _ _ c.if-count-i.true

pub returns-then-i-count : goal.returns-then-i-count
returns-then-i-count c = span_sized _ _ _ _ _ c.if-i-count.true c.three.ensures.0

pub returns : goal.returns
returns c = span_last _ _ _ _ _ c.if-count-i.false c.if-i-count.false c.saturating_sub.ensures
