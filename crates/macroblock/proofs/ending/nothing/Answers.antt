use Rattle.macroblock.specs.MacroblockLaws.{nothing_is}
use Rattle.macroblock.proofs.ending.nothing.Goals as goal

pub returns : goal.returns
returns c = nothing_is c.empty.ensures c.empty-2.ensures
