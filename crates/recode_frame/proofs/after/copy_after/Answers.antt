use Rattle.numbers.specs.Words.{arith, ◌∙◌, not-false, not-true}
use Rattle.recode.specs.Copies.{ask_copies}
use Rattle.recode_frame.specs.HeaderCopies.{after_all, after_chance}
use Rattle.recode_frame.proofs.after.copy_after.Goals as goal

pub shape_of-out-then-not-skip : goal.shape_of-out-then-not-skip
shape_of-out-then-not-skip c = c.ask-skip.auto.out ∙ c.copy_probs-probs.auto.out ∙ c.copy_bits-refresh.auto.out ∙ c.copy_quantizers-quantizers.auto.out

pub returns-then-not-skip : goal.returns-then-not-skip
returns-then-not-skip c = after_all c.copy_quantizers-quantizers.ensures c.copy_bits-refresh.ensures c.copy_probs-probs.ensures (ask_copies (omega arith) c.ask-skip.ensures) (not-true _ c.if-not-skip.true)

pub shape_of-out : goal.shape_of-out
shape_of-out c = c.copy_bits.auto.out ∙ c.ask-skip.auto.out ∙ c.copy_probs-probs.auto.out ∙ c.copy_bits-refresh.auto.out ∙ c.copy_quantizers-quantizers.auto.out

pub returns : goal.returns
returns c = after_chance c.copy_quantizers-quantizers.ensures c.copy_bits-refresh.ensures c.copy_probs-probs.ensures (ask_copies (omega arith) c.ask-skip.ensures) (not-false _ c.if-not-skip.false) c.copy_bits.ensures
