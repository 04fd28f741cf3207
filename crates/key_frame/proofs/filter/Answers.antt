use Rattle.numbers.specs.Words.{sym, ◌∙◌, ap}
use Rattle.deblock.specs.Deblock.{DeblockAnswer}
use Rattle.key_frame.specs.KeyFrameLaws.{filter_on, filter_off}
use Rattle.key_frame.proofs.filter.Goals as goal

pub returns-then-present_at : goal.returns-then-present_at
returns-then-present_at c = ap (λ (o : DeblockAnswer). o.planes) c.deblock.ensures ∙ sym (filter_on _ _ _ _ (sym c.present_at.ensures ∙ c.if-present_at.true))

pub returns-else-present_at : goal.returns-else-present_at
returns-else-present_at c = sym (filter_off _ _ _ _ (sym c.present_at.ensures ∙ c.if-present_at.false))
