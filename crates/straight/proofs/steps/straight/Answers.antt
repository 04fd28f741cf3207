-- `straight` meets its contract: each way is a rule.
use Rattle.numbers.specs.Words.{◌∙◌}
use Rattle.straight.specs.StraightLaws.{straight_simple, straight_outer, straight_inner}
use Rattle.straight.proofs.steps.straight.Goals as goal

pub returns-then-simple : goal.returns-then-simple
returns-then-simple c = c.simply.ensures ∙ straight_simple _ _ _ _ _ c.if-simple.true

pub returns-then-edge : goal.returns-then-edge
returns-then-edge c = c.outer.ensures ∙ straight_outer _ _ _ _ _ c.if-simple.false c.high_variance-high.ensures c.if-edge.true

pub returns-else-edge : goal.returns-else-edge
returns-else-edge c = c.inner.ensures ∙ straight_inner _ _ _ _ _ c.if-simple.false c.high_variance-high.ensures c.if-edge.false
