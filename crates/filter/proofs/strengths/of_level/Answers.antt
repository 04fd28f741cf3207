use Rattle.numbers.specs.Words.{◌≡◌, refl, sym, ◌∙◌, Bool, true, false, bit_of, bool_byte}
use Rattle.filter.specs.StrengthsLaws.{strength_none, four_are}
use Rattle.filter.proofs.strengths.of_level.Goals as goal

-- the kit's number of a flag is ours
flag : (b : Bool) → bool_byte b ≡ bit_of b
flag true = refl
flag false = refl

pub returns-then-level-eq0 : goal.returns-then-level-eq0
returns-then-level-eq0 c = sym (strength_none _ _ _ c.if-level-eq0.true)

pub returns : goal.returns
returns c = four_are _ _ _ c.if-level-eq0.false c.inner_limit-inner.ensures.0 c.variance.ensures (c.from.ensures ∙ flag _)
