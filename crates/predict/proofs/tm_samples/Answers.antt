-- `tm_samples` meets its contract, row by row.
use Rattle.numbers.specs.Words.{◌∙◌}
use Rattle.predict.specs.PredictLaws.{tm_rows}
use Rattle.predict.proofs.tm_samples.Goals as goal

pub returns : goal.returns
returns c = c.joined.ensures ∙ tm_rows _ _ _ c.tm_row-w.ensures c.tm_row-x.ensures c.tm_row-y.ensures c.tm_row-z.ensures
