use Rattle.numbers.specs.Words.{◌∙◌}
use Rattle.recode_frame.specs.HeaderCopies.{quantizers_copied}
use Rattle.recode_frame.proofs.after.copy_quantizers.Goals as goal

pub shape_of-out : goal.shape_of-out
shape_of-out c = c.copy_signed.auto.out ∙ c.copy_signed-uvdc.auto.out ∙ c.copy_signed-y2ac.auto.out ∙ c.copy_signed-y2dc.auto.out ∙ c.copy_signed-ydc.auto.out ∙ c.copy_bits-base.auto.out

pub returns : goal.returns
returns c = quantizers_copied c.copy_bits-base.ensures c.copy_signed-ydc.ensures c.copy_signed-y2dc.ensures c.copy_signed-y2ac.ensures c.copy_signed-uvdc.ensures c.copy_signed.ensures
