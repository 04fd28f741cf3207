use Rattle.recode_frame.specs.HeaderCopies.{four_copied}
use Rattle.recode_frame.proofs.bits.copy_four.Goals as goal

pub returns : goal.returns
returns c = four_copied c.args.n c.copy_signed-a.ensures c.copy_signed-b.ensures c.copy_signed-c.ensures c.copy_signed.ensures
