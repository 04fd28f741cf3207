use Rattle.recode_frame.specs.HeaderCopies.{before_copied}
use Rattle.recode_frame.proofs.before.copy_before.Goals as goal

pub returns : goal.returns
returns c = before_copied c.copy_bits-colour.ensures c.copy_bits-clamping.ensures c.copy_segments-segments.ensures c.copy_filter.ensures
