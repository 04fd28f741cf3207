-- `widened` meets its contract: each number stays.
use Rattle.numbers.specs.Words.{arith, refl, ◌∙◌, ap, filled_none, filled_next, filled_all, round, rounded, there, w16, w32}
use Rattle.filter.proofs.steps.widened.Goals as goal

pub loop-i-init : goal.loop-i-init
loop-i-init c = filled_none _ 8 _ refl

pub loop-i-preserved : goal.loop-i-preserved
loop-i-preserved c = filled_next _ (omega arith) (ap (round w32) c.from.ensures ∙ (rounded w32 (there w16 (c.requires.at c.loop-i.i) tt) tt).eq) c.loop-i.invariant

pub returns : goal.returns
returns c = filled_all (omega arith) c.loop-i.invariant
