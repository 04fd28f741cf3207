use Rattle.numbers.specs.Words.{ℕ, max, arith, sym, ◌∙◌, ap}
use Rattle.filter.specs.StrengthsLaws.{inner_is, inner_flat, inner_half, inner_quarter, sharpest}
use Rattle.filter.proofs.strengths.inner_limit.Goals as goal

pub returns-then-sharp-eq0 : goal.returns-then-sharp-eq0
returns-then-sharp-eq0 c = inner_is _ _ (c.max.ensures ∙ sym (inner_flat _ _ c.if-sharp-eq0.true))

pub returns-then-sharp-ge9 : goal.returns-then-sharp-ge9
returns-then-sharp-ge9 c = inner_is _ _ (sharpest _ _ c.if-sharp-ge9.true)

pub returns-then-sharp-gt4 : goal.returns-then-sharp-gt4
returns-then-sharp-gt4 c = inner_is _ _ (c.max-then-sharp-gt4.ensures ∙ ap (λ (x : ℕ). max x 1) c.min.ensures ∙ sym (inner_quarter _ _ c.if-sharp-gt4.true))

pub returns : goal.returns
returns c = inner_is _ _ (c.max-2.ensures ∙ ap (λ (x : ℕ). max x 1) c.min-2.ensures ∙ sym (inner_half _ _ (omega arith) c.if-sharp-gt4.false))
