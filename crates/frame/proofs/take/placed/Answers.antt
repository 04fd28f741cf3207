use Rattle.numbers.specs.Words.{◌∙◌}
use Rattle.frame.specs.TakeLaws.{refused_places, taken_whole}
use Rattle.frame.proofs.take.placed.Goals as goal

pub returns-then-b-found : goal.returns-then-b-found
returns-then-b-found c = c.nothing.ensures ∙ refused_places _ _ _ c.size-size.ensures.0 c.count-n.ensures.0 c.count-n.ensures.1 c.count-n.ensures.2 c.places-found.ensures.1 c.if-b-found.true

pub returns : goal.returns
returns c = taken_whole _ _ _ c.size-size.ensures.0 c.count-n.ensures.0 c.count-n.ensures.1 c.count-n.ensures.2 c.places-found.ensures.1 c.width-across.ensures.0 c.height-down.ensures.0 c.rounded.ensures c.rounded-2.ensures c.places-found.ensures.0 c.entries.ensures c.if-b-found.false
