use Rattle.hookbarley.specs.CallsLaws.{recode_no_tile, recode_no_result, recode_called_found}
use Rattle.hookbarley.proofs.recoding.hookbarley_recode.Goals as goal

pub returns-then-tile-ne-TILE_NUMBERS : goal.returns-then-tile-ne-TILE_NUMBERS
returns-then-tile-ne-TILE_NUMBERS c = recode_no_tile _ _ _ _ _ _ c.if-tile-ne-TILE_NUMBERS.true

pub returns-then-res-ne-TILE_NUMBERS : goal.returns-then-res-ne-TILE_NUMBERS
returns-then-res-ne-TILE_NUMBERS c = recode_no_result _ _ _ _ _ _ c.if-tile-ne-TILE_NUMBERS.false c.if-res-ne-TILE_NUMBERS.true

pub shape_of-y : goal.shape_of-y
shape_of-y c = c.recode-r.auto.y

pub shape_of-u : goal.shape_of-u
shape_of-u c = c.recode-r.auto.u

pub shape_of-v : goal.shape_of-v
shape_of-v c = c.recode-r.auto.v

pub shape_of-columns : goal.shape_of-columns
shape_of-columns c = c.recode-r.auto.columns

pub shape_of-modes : goal.shape_of-modes
shape_of-modes c = c.recode-r.auto.modes

pub shape_of-strengths : goal.shape_of-strengths
shape_of-strengths c = c.recode-r.auto.strengths

pub shape_of-out : goal.shape_of-out
shape_of-out c = c.recode-r.auto.out

pub shape_of-res : goal.shape_of-res
shape_of-res c = c.put_numbers.auto.tile

pub returns : goal.returns
returns c = recode_called_found _ _ _ _ _ _ c.if-tile-ne-TILE_NUMBERS.false c.if-res-ne-TILE_NUMBERS.false c.tile_of.ensures c.recode-r.ensures c.result_of.ensures c.put_numbers.ensures
