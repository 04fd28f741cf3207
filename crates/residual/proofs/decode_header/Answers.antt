use Rattle.residual.specs.ResidualSteps.{header_none, table_none, header_some}
use Rattle.residual.proofs.decode_header.Goals as goal

pub returns-in_default : goal.returns-in_default
returns-in_default c = header_none _ _ _ _ _ _ _ _ _ c.for_segment.ensures c.in_default.is c.no_residual.ensures

pub returns-in_default-probabilities : goal.returns-in_default-probabilities
returns-in_default-probabilities c = table_none _ _ _ _ _ _ _ _ _ c.for_segment.ensures c.probabilities.ensures c.in_default-probabilities.is c.no_residual-in_default-probabilities.ensures

pub returns : goal.returns
returns c = header_some _ _ _ _ _ _ _ _ _ c.for_segment.ensures c.in-Some.is c.probabilities.ensures c.in-Some-probabilities.is c.decode.ensures
