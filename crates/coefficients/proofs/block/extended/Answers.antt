-- `extended` meets its contract: the extra bits are few, so the sum fits.
use Rattle.numbers.specs.Words.{arith, ◌∙◌, ap, lit≤, length}
use Rattle.reader.specs.Counts.{Took}
use Rattle.reader.specs.CountsLaws.{extra_took}
use Rattle.reader.specs.Extra.{extra}
use Rattle.reader.specs.ExtraLaws.{bits_small, extra_within}
use Rattle.reader.specs.ReadingLaws.{from_read, run_valid}
use Rattle.coefficients.specs.BlockSteps.{category_missing, category_got}
use Rattle.coefficients.proofs.block.extended.Goals as goal
use Rattle.coefficients.proofs.block.extended.Goals.{After-extra_bits-bits}

-- what the extra bits say of the grammar
is : (c : After-extra_bits-bits) → (Took (extra c.args.probs.now) c.args.s.now c.args.r (from_read c.extra_bits-bits.result.answer) c.extra_bits-bits.result.reads)
is c = extra_took _ _ _ c.requires.valid c.requires.probs_len_bound.0 c.extra_bits-bits.ensures

pub returns-in_default : goal.returns-in_default
returns-in_default c = rw c.missing.ensures (category_missing _ _ _ _ c.extra_bits-bits.result.answer (is (goal.at.returns-in_default c).After-extra_bits-bits) (ap from_read c.in_default.is))

pub overflow_add-result : goal.overflow_add-result
overflow_add-result c =
    let a = (goal.at.overflow_add-result c).After-extra_bits-bits in
    let e = run_valid (extra_within c.args.probs.now (λ i. (c.type_inv.probs i).fits)) (λ i. (c.type_inv.s i).fits) c.requires.valid ((is a).gave ∙ ap from_read c.in-Ok.is) in
    record { fits = omega (arith, bits_small {i = length c.args.probs.now} {n = 16} e.value c.requires.probs_len_bound.0 (lit≤ tt)) }

pub returns : goal.returns
returns c = category_got _ _ _ _ c.extra_bits-bits.result.answer (is (goal.at.returns c).After-extra_bits-bits) c.in-Ok.is
