use Rattle.modes.specs.Modes.{macroblock_of}
use Rattle.macroblock.specs.MacroblockLaws.{ended_is}
use Rattle.macroblock.proofs.ending.told.Goals as goal

pub returns : goal.returns
returns c = ended_is c.args.frame (macroblock_of c.args.m.kinds c.args.m.modes) c.args.residue c.strength_of.ensures c.requires.0 c.requires.1
