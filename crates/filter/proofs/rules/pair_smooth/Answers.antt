-- `pair_smooth` meets its contract: the pairs by their places.
use Rattle.numbers.specs.Words.{◌∙◌}
use Rattle.filter.specs.KernelLaws.{pair_before, pair_behind}
use Rattle.filter.proofs.rules.pair_smooth.Goals as goal

pub returns-then-k-lt3 : goal.returns-then-k-lt3
returns-then-k-lt3 c = c.smooth.ensures ∙ pair_before c.args.e.now c.args.inner c.args.k c.if-k-lt3.true

pub returns-else-k-lt3 : goal.returns-else-k-lt3
returns-else-k-lt3 c = c.smooth-else-k-lt3.ensures ∙ pair_behind c.args.e.now c.args.inner c.args.k c.if-k-lt3.false c.requires
