-- `extra_bits` meets its contract: the tests are the definition's, and behind them the bits are read.
use Rattle.numbers.specs.Words.{sym, ◌∙◌, both_left, both_right, leb-true}
use Rattle.reader.specs.ReadingLaws.{valid_fact}
use Rattle.reader.specs.CountsLaws.{extra_refused, extra_made}
use Rattle.reader.proofs.extra.extra_bits.Goals as goal

pub returns-then-not-valid-probs : goal.returns-then-not-valid-probs
returns-then-not-valid-probs c = extra_refused _ _ _ c.valid.ensures c.if-not-valid-probs.true

pub read_extra-requires : goal.read_extra-requires
read_extra-requires c = let e = c.if-not-valid-probs.false in record { valid = valid_fact _ _ (sym c.valid.ensures ∙ both_left _ _ e); probs_len_bound = leb-true _ _ (both_right c.valid.result _ e) }

pub returns : goal.returns
returns c = extra_made _ _ _ c.valid.ensures c.if-not-valid-probs.false c.read_extra.ensures
