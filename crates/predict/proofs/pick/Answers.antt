-- `pick` meets its contract, row by row.
use Rattle.numbers.specs.Words.{◌∙◌}
use Rattle.predict.specs.PredictLaws.{picked_rows}
use Rattle.predict.proofs.pick.Goals as goal

pub returns : goal.returns
returns c = c.joined.ensures ∙ picked_rows c.args.m c.args.places c.pick_row-w.ensures c.pick_row-x.ensures c.pick_row-y.ensures c.pick_row-z.ensures
