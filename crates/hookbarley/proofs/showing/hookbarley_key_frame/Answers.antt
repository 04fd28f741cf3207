use Rattle.hookbarley.specs.CallsLaws.{show_refused, show_found}
use Rattle.hookbarley.proofs.showing.hookbarley_key_frame.Goals as goal

pub returns-then-tile-ne-TILE_NUMBERS : goal.returns-then-tile-ne-TILE_NUMBERS
returns-then-tile-ne-TILE_NUMBERS c = show_refused _ _ _ _ c.if-tile-ne-TILE_NUMBERS.true

pub shape_of-header : goal.shape_of-header
shape_of-header c = c.key_frame-shown.auto.header

pub shape_of-tile : goal.shape_of-tile
shape_of-tile c = c.put_shown.auto.tile

pub shape_of-y : goal.shape_of-y
shape_of-y c = c.key_frame-shown.auto.y

pub shape_of-u : goal.shape_of-u
shape_of-u c = c.key_frame-shown.auto.u

pub shape_of-v : goal.shape_of-v
shape_of-v c = c.key_frame-shown.auto.v

pub shape_of-columns : goal.shape_of-columns
shape_of-columns c = c.key_frame-shown.auto.columns

pub shape_of-modes : goal.shape_of-modes
shape_of-modes c = c.key_frame-shown.auto.modes

pub shape_of-strengths : goal.shape_of-strengths
shape_of-strengths c = c.key_frame-shown.auto.strengths

pub returns : goal.returns
returns c = show_found _ _ _ _ c.if-tile-ne-TILE_NUMBERS.false c.key_frame-shown.ensures c.put_shown.ensures c.tell_counts.ensures
