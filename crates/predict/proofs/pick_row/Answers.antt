-- `pick_row` meets its contract: each place is one of eleven.
use Rattle.numbers.specs.Words.{◌+◌}
use Rattle.predict.specs.PredictLaws.{eleven_at_lem}
use Rattle.predict.proofs.pick_row.Goals as goal

pub bounds-m-from : goal.bounds-m-from
bounds-m-from c = rw c.from.ensures (eleven_at_lem c.args.places c.requires.eleven c.args.k)

pub bounds-m-from-2 : goal.bounds-m-from-2
bounds-m-from-2 c = rw c.from-2.ensures (eleven_at_lem c.args.places c.requires.eleven (c.args.k + 1))

pub bounds-m-from-3 : goal.bounds-m-from-3
bounds-m-from-3 c = rw c.from-3.ensures (eleven_at_lem c.args.places c.requires.eleven (c.args.k + 2))

pub bounds-m-from-4 : goal.bounds-m-from-4
bounds-m-from-4 c = rw c.from-4.ensures (eleven_at_lem c.args.places c.requires.eleven (c.args.k + 3))
