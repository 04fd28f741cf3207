use Rattle.numbers.specs.Words.{◌∙◌}
use Rattle.residual.specs.GroupsLaws.{settled_first, settled_later, none_first, none_later}
use Rattle.residual.proofs.quick.settle.Goals as goal

pub returns-then-g-eq0 : goal.returns-then-g-eq0
returns-then-g-eq0 c = (c.spread_second.ensures ∙ settled_first c.args.g c.args.flat.now c.if-g-eq0.true, none_first c.args.g c.args.none c.if-g-eq0.true)

pub returns : goal.returns
returns c = (settled_later c.args.g c.args.flat.now c.if-g-eq0.false, none_later c.args.g c.args.none c.if-g-eq0.false)
