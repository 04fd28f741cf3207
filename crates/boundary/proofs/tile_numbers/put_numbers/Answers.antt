use Rattle.numbers.specs.Words.{◌-◌, arith, refl, sym, ◌∙◌, build_listed, filled_none, filled_next, filled_all, rules}
use Rattle.boundary.specs.TileNumbersLaws.{listed_is, put_there, put_nowhere}
use Rattle.boundary.proofs.tile_numbers.put_numbers.Goals as goal

pub returns-then-tile-ne-TILE_NUMBERS : goal.returns-then-tile-ne-TILE_NUMBERS
returns-then-tile-ne-TILE_NUMBERS c = put_nowhere _ _ c.if-tile-ne-TILE_NUMBERS.true

pub loop-i-init : goal.loop-i-init
loop-i-init c = filled_none _ 28 _ c.if-tile-ne-TILE_NUMBERS.false

pub bounds-tile-i : goal.bounds-tile-i
bounds-tile-i c = rw c.loop-i.invariant.long (omega arith)

pub loop-i-preserved : goal.loop-i-preserved
loop-i-preserved c = filled_next _ (omega arith) refl c.loop-i.invariant

pub shape_of-tile : goal.shape_of-tile
shape_of-tile c = c.loop-i.invariant.long ∙ sym c.if-tile-ne-TILE_NUMBERS.false

pub returns : goal.returns
returns c = filled_all (omega arith) c.loop-i.invariant ∙ build_listed 28 _ ∙ listed_is _ 28 0 (search rules) ∙ sym (put_there _ _ c.if-tile-ne-TILE_NUMBERS.false)
