use Rattle.recode_frame.specs.FirstLaws.{header_recounted}
use Rattle.recode_frame.proofs.first.copy_header.Goals as goal

pub returns : goal.returns
returns c = header_recounted c.copy_before-before.ensures c.clear_count-count.ensures c.copy_after.ensures
