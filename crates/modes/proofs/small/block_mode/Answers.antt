use Rattle.numbers.specs.Words.{sym, ◌∙◌}
use Rattle.reader.specs.ReadingLaws.{valid_fact}
use Rattle.modes.specs.AnswersLaws.{block_reader, block_above, block_left, block_good}
use Rattle.modes.proofs.small.block_mode.Goals as goal

pub returns-then-not-valid : goal.returns-then-not-valid
returns-then-not-valid c = block_reader _ _ _ _ (sym c.valid.ensures ∙ c.if-not-valid.true)

pub returns-then-top-ge10 : goal.returns-then-top-ge10
returns-then-top-ge10 c = block_above _ _ _ _ c.if-top-ge10.true

pub returns-then-left-ge10 : goal.returns-then-left-ge10
returns-then-left-ge10 c = block_left _ _ _ _ c.if-left-ge10.true

pub block-requires : goal.block-requires
block-requires c =
    record {
      valid = valid_fact _ _ (sym c.valid.ensures ∙ c.if-not-valid.false);
      top_bound = (c.if-top-ge10.false, c.if-left-ge10.false);
      all_value = c.all_probabilities-all.ensures;
    }

pub returns : goal.returns
returns c = c.block.ensures.0 ∙ sym (block_good _ _ _ _ (valid_fact _ _ (sym c.valid.ensures ∙ c.if-not-valid.false)) c.if-top-ge10.false c.if-left-ge10.false)
