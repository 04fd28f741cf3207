use Rattle.numbers.specs.Words.{arith, ◌∙◌}
use Rattle.recode.specs.Copies.{ask_copies}
use Rattle.recode_frame.specs.HeaderCopies.{filter_copied}
use Rattle.recode_frame.proofs.before.copy_filter.Goals as goal

pub shape_of-out : goal.shape_of-out
shape_of-out c = c.copy_deltas.auto.out ∙ c.ask-on.auto.out ∙ c.copy_bits-sharpness.auto.out ∙ c.copy_bits-level.auto.out ∙ c.copy_bits-kind.auto.out

pub returns : goal.returns
returns c = filter_copied c.copy_bits-kind.ensures c.copy_bits-level.ensures c.copy_bits-sharpness.ensures (ask_copies (omega arith) c.ask-on.ensures) c.copy_deltas.ensures
