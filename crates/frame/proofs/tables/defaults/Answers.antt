-- One test of the code's whole table.
use Rattle.numbers.specs.Words.{◌∙◌}
use Rattle.frame.specs.Tables.{default_probs}
use Rattle.frame.proofs.tables.defaults.Goals as goal

pub returns : goal.returns
unfolding default_probs
returns c = c.copy_from_slice.ensures.after ∙ c.as_flattened.ensures.value
