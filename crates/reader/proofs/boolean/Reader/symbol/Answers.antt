use Rattle.numbers.specs.Words.{sym, ◌∙◌}
use Rattle.reader.specs.ReadingLaws.{valid_fact, symbol_good, symbol_refused}
use Rattle.reader.proofs.boolean.Reader.symbol.Goals as goal

pub returns-then-not-valid : goal.returns-then-not-valid
returns-then-not-valid c = symbol_refused _ _ _ (sym c.valid.ensures ∙ c.if-not-valid.true)

pub read-requires : goal.read-requires
read-requires c = valid_fact _ _ (sym c.valid.ensures ∙ c.if-not-valid.false)

pub returns : goal.returns
returns c = c.read.ensures ∙ sym (symbol_good _ _ _ (valid_fact _ _ (sym c.valid.ensures ∙ c.if-not-valid.false)))
