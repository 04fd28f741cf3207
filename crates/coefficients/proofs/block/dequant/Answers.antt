-- `dequant` meets its contract: what passes the test is what the inner call asks.
use Rattle.numbers.specs.Words.{◌∙◌, both_left, both_right}
use Rattle.reader.specs.Reading.{valid_of}
use Rattle.reader.specs.ReadingLaws.{valid_fact}
use Rattle.coefficients.specs.BlockSteps.{tests_two, signed_refused, signed_good, numeric_fact}
use Rattle.coefficients.proofs.block.dequant.Goals as goal

pub returns-then-not-valid-numeric : goal.returns-then-not-valid-numeric
returns-then-not-valid-numeric c = signed_refused _ _ _ _ (tests_two c.valid.ensures c.numeric.ensures (c.if-not-valid-numeric.true))

pub read_signed-requires : goal.read_signed-requires
read_signed-requires c =
    let e = tests_two c.valid.ensures c.numeric.ensures (c.if-not-valid-numeric.false) in
    record { valid = valid_fact _ _ (both_left _ _ e); le_token = numeric_fact _ (both_right (valid_of c.args.s.now c.args.r) _ e) }

pub returns : goal.returns
returns c = c.read_signed.ensures.0 ∙ signed_good _ _ _ _ (tests_two c.valid.ensures c.numeric.ensures (c.if-not-valid-numeric.false))
