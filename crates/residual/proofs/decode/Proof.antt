-- `decode` meets its contract: what passes the tests is what `read_fast` asks.
use Rattle.numbers.specs.Words.{◌≡◌, Bool, ◌&&◌, both_left, both_right, not-false, not-true, length, w8, rules}
use borrow.Kind.Array.{e_int, good_length}
use Rattle.reader.specs.Reading.{valid_of}
use Rattle.reader.specs.ReadingLaws.{valid_fact}
use Rattle.coefficients.specs.BlockSteps.{tests_two}
use Rattle.residual.specs.Residual.{residual_arguments}
use Rattle.residual.specs.ResidualSteps.{arguments_fact, passed, refused}
use Rattle.residual.proofs.decode.Statement.{statement}
use Rattle.residual.proofs.decode.Tie as tie

valid-requires : tie.Need-valid-requires
valid-requires c κs = search rules

arguments-requires : tie.Need-arguments-requires
arguments-requires c κs = search rules

no-residual-requires : tie.Need-no_residual-requires
no-residual-requires c κs = search rules

-- the tests are the definition's
tests : (c : tie.After-arguments) {b : Bool} → c.valid.result && c.arguments.result ≡ b → (valid_of c.args.s.now c.args.r && residual_arguments c.args.table.now c.args.top c.args.left (length c.args.out.now) ≡ b)
tests c e = tests_two c.valid.ensures c.arguments.ensures e

returns : tie.Need-returns-then-not-valid-arguments
returns c = refused _ _ _ _ _ _ _ _ _ (tests c.before.before (not-true _ c.if-not-valid-arguments.true-raw)) c.no_residual.ensures

read-fast-requires : tie.Need-read_fast-requires
read-fast-requires c κs =
    let e = tests c.before.before (not-false _ c.if-not-valid-arguments.false-raw) in
    let x = arguments_fact c.args.table.now c.args.top c.args.left (length c.args.out.now) (good_length (e_int w8) 9 c.args.top _ c.well_formed.1.1.1.1.1.1.0) (good_length (e_int w8) 9 c.args.left _ c.well_formed.1.1.1.1.1.1.1.0) (both_right (valid_of c.args.s.now c.args.r) _ e) in
    ((valid_fact _ _ (both_left _ _ e), x.0), x.1)

same_length : tie.Need-shape_of-out
same_length c = search rules

returns-2 : tie.Need-returns
returns-2 c = passed _ _ _ _ _ _ _ _ _ (tests c.before.before.before.before (not-false _ c.if-not-valid-arguments.false-raw)) c.read_fast.ensures

pub decode_spec : {M : Type 1} → statement M
decode_spec = tie.close (tie.spec valid-requires arguments-requires no-residual-requires returns read-fast-requires same_length returns-2)
