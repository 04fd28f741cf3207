-- One test of the code's whole table.
use Rattle.numbers.specs.Words.{◌∙◌}
use Rattle.frame.specs.Tables.{update_probs}
use Rattle.frame.proofs.tables.updates.Goals as goal

pub returns : goal.returns
unfolding update_probs
returns c = c.copy_from_slice.ensures.after ∙ c.as_flattened.ensures.value
