-- `read_signed` meets its contract: the number, then the sign, then their product.
use Rattle.numbers.specs.Words.{arith, ◌∙◌, ap, answered, wrap_in, w32}
use Rattle.reader.specs.ReadingLaws.{ReadTo, run_valid, symboled, from_read, count_within}
use Rattle.coefficients.specs.BlockLaws.{Magnitude, magnitude_within}
use Rattle.coefficients.specs.BlockSteps.{number_took, signed_lost, signed_missing, signed_got}
use Rattle.coefficients.proofs.block.read_signed.Goals as goal
use Rattle.coefficients.proofs.block.read_signed.Goals.{In-Ok, After-symbol}

-- the number's range and the reader after it; then the sign
range : (c : In-Ok) → (ReadTo Magnitude c.args.s.now c.args.r c.in-Ok.v c.in-Ok.next)
range c =
    run_valid (magnitude_within _ c.requires.le_token.0 c.requires.le_token.1) (λ i. (c.type_inv.s i).fits) c.requires.valid ((number_took _ _ 0 _ c.read_number-number.ensures).gave ∙ ap from_read c.in-Ok.is)

pub returns-in_default : goal.returns-in_default
returns-in_default c = rw c.missing.ensures (signed_lost _ _ _ _ c.read_number-number.ensures (ap from_read c.in_default.is))

pub returns-in_default-symbol : goal.returns-in_default-symbol
returns-in_default-symbol c =
    let a = goal.at.returns-in_default-symbol c in
    rw c.missing-in_default-symbol.ensures (signed_missing _ _ _ _ c.read_number-number.ensures c.in-Ok.is (symboled _ _ 128 (range a.In-Ok).valid c.symbol.ensures ∙ ap from_read c.in_default-symbol.is))

pub product-requires : goal.product-requires
product-requires c = (range (goal.at.product-requires c).In-Ok).value.1

pub overflow_add-result : goal.overflow_add-result
overflow_add-result c = record { fits = omega (arith, c.read_number-number.ensures.1, count_within c.args.s.now c.args.r (magnitude_within _ c.requires.le_token.0 c.requires.le_token.1)) }

pub returns : goal.returns
returns c =
    let a = goal.at.returns c in
    signed_got _ _ _ _ c.read_number-number.ensures c.in-Ok.is (symboled _ _ 128 (range a.In-Ok).valid c.symbol.ensures ∙ ap from_read c.in-Ok-symbol.is) (answered w32 c.product.ensures (wrap_in _) tt).eq
