use Rattle.numbers.specs.Words.{◌-◌, refl, filled_none, filled_next, filled_all, rules}
use Rattle.tile.specs.Tile.{readers_of}
use Rattle.tile.proofs.partitions.openers.Goals as goal

pub loop-i-init : goal.loop-i-init
loop-i-init c = filled_none _ 8 _ refl

pub loop-i-preserved : goal.loop-i-preserved
loop-i-preserved c = filled_next _ (search rules) c.opener.ensures c.loop-i.invariant

pub returns : goal.returns
unfolding readers_of
returns c = filled_all (search rules) c.loop-i.invariant
