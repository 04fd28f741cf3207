use Rattle.numbers.specs.Words.{sym, ◌∙◌, ap}
use Rattle.reader.specs.Reading.{run, to_read}
use Rattle.reader.specs.ReadingLaws.{valid_fact}
use Rattle.header.specs.FrameLaws.{announced_bytes}
use Rattle.header.specs.declared.frame.Announced.{Announced}
use Rattle.modes.specs.Modes.{prefix}
use Rattle.modes.specs.AnswersLaws.{prefix_length, prefix_reader, prefix_good}
use Rattle.modes.proofs.prefix.prefix.Goals as goal

pub returns-then-h-ne-ENTRY_COUNT : goal.returns-then-h-ne-ENTRY_COUNT
returns-then-h-ne-ENTRY_COUNT c = prefix_length _ _ _ c.if-h-ne-ENTRY_COUNT.true

pub returns-then-not-valid : goal.returns-then-not-valid
returns-then-not-valid c = prefix_reader _ _ _ (sym c.valid.ensures ∙ c.if-not-valid.true)

pub head-requires : goal.head-requires
head-requires c = record { valid = valid_fact _ _ (sym c.valid.ensures ∙ c.if-not-valid.false); probabilities = rw c.announced_by.ensures (announced_bytes _) }

pub returns : goal.returns
returns c = c.head.ensures.0 ∙ ap (λ (n : Announced). to_read (run (prefix n) c.args.s.now c.args.r)) c.announced_by.ensures ∙ sym (prefix_good _ _ _ (valid_fact _ _ (sym c.valid.ensures ∙ c.if-not-valid.false)) c.if-h-ne-ENTRY_COUNT.false)
