use Rattle.modes.specs.Modes.{macroblock_of}
use Rattle.macroblock.specs.Macroblock.{planes_of}
use Rattle.macroblock.specs.MacroblockLaws.{squares_made}
use Rattle.macroblock.proofs.squares.squares.Goals as goal

pub returns : goal.returns
returns c = squares_made _ c.requires c.args.place (planes_of c.args.y.now c.args.u.now c.args.v.now) (macroblock_of c.args.kinds c.args.modes.now) c.paint.ensures c.paint-2.ensures c.paint-3.ensures
