-- `explain` meets its contract: the rule, and what it does, told.
use Rattle.numbers.specs.Words.{rules}
use Rattle.filter.specs.ExplainLaws.{told}
use Rattle.filter.proofs.explain.explain.Goals as goal

pub returns : goal.returns
returns c = told _ _ _ _ _ _ (search rules) (search rules) (search rules)
