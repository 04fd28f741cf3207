use Rattle.hookbarley.specs.CallsLaws.{called_refused, called_found}
use Rattle.hookbarley.proofs.decoding.hookbarley_decode.Goals as goal

pub returns-then-tile-ne-TILE_NUMBERS : goal.returns-then-tile-ne-TILE_NUMBERS
returns-then-tile-ne-TILE_NUMBERS c = called_refused _ _ _ _ c.if-tile-ne-TILE_NUMBERS.true

pub shape_of-y : goal.shape_of-y
shape_of-y c = c.decode-d.auto.y

pub shape_of-u : goal.shape_of-u
shape_of-u c = c.decode-d.auto.u

pub shape_of-v : goal.shape_of-v
shape_of-v c = c.decode-d.auto.v

pub shape_of-columns : goal.shape_of-columns
shape_of-columns c = c.decode-d.auto.columns

pub shape_of-modes : goal.shape_of-modes
shape_of-modes c = c.decode-d.auto.modes

pub shape_of-strengths : goal.shape_of-strengths
shape_of-strengths c = c.decode-d.auto.strengths

pub returns : goal.returns
returns c = called_found _ _ _ _ c.if-tile-ne-TILE_NUMBERS.false c.tile_of.ensures c.decode-d.ensures c.number.ensures c.finished.ensures c.tell_counts.ensures
