use Rattle.numbers.specs.Words.{◌∙◌, byte_bit, rules}
use Rattle.lent.specs.MacroblocksLaws.{mode_bytes}
use Rattle.lent.proofs.macroblocks.record_of.Goals as goal

pub returns : goal.returns
returns c = c.store.ensures ∙ mode_bytes _ _ _ _ _ (search rules) ∙ rw (c.from.ensures ∙ byte_bit _, c.from-2.ensures ∙ byte_bit _)
