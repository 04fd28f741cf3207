use Rattle.numbers.specs.Words.{sym, ◌∙◌}
use Rattle.reader.specs.ReadingLaws.{valid_fact}
use Rattle.modes.specs.AnswersLaws.{main_reader, main_good}
use Rattle.modes.proofs.large.main_mode.Goals as goal

pub returns-then-not-valid : goal.returns-then-not-valid
returns-then-not-valid c = main_reader _ _ _ (sym c.valid.ensures ∙ c.if-not-valid.true)

pub large_mode-requires : goal.large_mode-requires
large_mode-requires c = valid_fact _ _ (sym c.valid.ensures ∙ c.if-not-valid.false)

pub returns : goal.returns
returns c = c.large_mode.ensures.0 ∙ sym (main_good _ _ _ (valid_fact _ _ (sym c.valid.ensures ∙ c.if-not-valid.false)))
