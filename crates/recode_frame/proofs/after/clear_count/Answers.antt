use Rattle.recode_frame.specs.HeaderCopies.{count_swapped}
use Rattle.recode_frame.proofs.after.clear_count.Goals as goal

pub returns : goal.returns
returns c = count_swapped c.clear-high.ensures c.clear.ensures
