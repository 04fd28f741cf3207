-- `filter` meets its contract: the rule, and what it does.
use Rattle.numbers.specs.Words.{◌∙◌, ap}
use Rattle.filter.specs.Kernel.{Rule, samples_across, steps_of, moved_of, filter_of}
use Rattle.filter.proofs.filter.Goals as goal

pub returns : goal.returns
unfolding filter_of
returns c = c.acted.ensures ∙ ap (λ (r : Rule). moved_of c.args.e.now (steps_of r (samples_across c.args.e.now))) c.rule.ensures
