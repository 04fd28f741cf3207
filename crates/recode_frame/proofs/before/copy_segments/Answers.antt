use Rattle.numbers.specs.Words.{arith, ◌∙◌, not-false, not-true}
use Rattle.recode.specs.Copies.{ask_copies}
use Rattle.recode_frame.specs.HeaderCopies.{segments_off, segments_on_lem}
use Rattle.recode_frame.proofs.before.copy_segments.Goals as goal

pub returns-then-not-on : goal.returns-then-not-on
returns-then-not-on c = segments_off (ask_copies (omega arith) c.ask-on.ensures) (not-true _ c.if-not-on.true)

pub shape_of-out : goal.shape_of-out
shape_of-out c = c.copy_map.auto.out ∙ c.copy_features-features.auto.out ∙ c.ask-changes.auto.out ∙ c.ask-map.auto.out ∙ c.ask-on.auto.out

pub returns : goal.returns
returns c = segments_on_lem (ask_copies (omega arith) c.ask-on.ensures) (not-false _ c.if-not-on.false) (ask_copies (omega arith) c.ask-map.ensures) (ask_copies (omega arith) c.ask-changes.ensures) c.copy_features-features.ensures c.copy_map.ensures
