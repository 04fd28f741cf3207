-- `decode` meets its contract: what passes the tests is what `read_block` asks.
use Rattle.numbers.specs.Words.{both_left, both_right, not-false, not-true}
use Rattle.reader.specs.Reading.{valid_of}
use Rattle.reader.specs.ReadingLaws.{valid_fact}
use Rattle.coefficients.specs.BlockSteps.{tests_three, arguments_fact, passed, refused}
use Rattle.coefficients.proofs.block.decode.Goals as goal

pub returns-then-not-valid-arguments : goal.returns-then-not-valid-arguments
returns-then-not-valid-arguments c = refused _ _ _ _ _ _ _ _ _ (tests_three c.valid.ensures c.arguments.ensures c.small.ensures (not-true _ c.if-not-valid-arguments.true-raw))

pub read_block-requires : goal.read_block-requires
read_block-requires c =
    let e = tests_three c.valid.ensures c.arguments.ensures c.small.ensures (not-false _ c.if-not-valid-arguments.false-raw) in
    record {
      valid = valid_fact _ _ (both_left _ _ e);
      table_len = arguments_fact c.args.table.now c.args.kind c.args.ctx c.args.first (both_left _ _ (both_right (valid_of c.args.s.now c.args.r) _ e));
    }

pub returns : goal.returns
returns c = passed _ _ _ _ _ _ _ _ _ (tests_three c.valid.ensures c.arguments.ensures c.small.ensures (not-false _ c.if-not-valid-arguments.false-raw)) c.read_block.ensures
