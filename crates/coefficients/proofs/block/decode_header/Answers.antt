-- `decode_header` meets its contract: a header that is taken gives the table that `decode` is called with.
use Rattle.coefficients.specs.BlockLaws.{table_taken, table_not}
use Rattle.coefficients.specs.BlockSteps.{header_good, header_refused}
use Rattle.coefficients.proofs.block.decode_header.Goals as goal

pub returns-in_default : goal.returns-in_default
returns-in_default c = header_refused _ _ _ _ _ _ _ _ _ (table_not _ c.probabilities.ensures c.in_default.is)

pub returns : goal.returns
returns c = let t = table_taken _ c.probabilities.ensures c.in-Some.is in header_good _ _ _ _ _ _ _ _ _ t.0 t.1 c.decode.ensures
