use Rattle.numbers.specs.Words.{Filled}
use Rattle.tile.specs.Tile.{reader_of_of}
use Rattle.tile.proofs.partitions.openers.Given as goal

abbrev pub invariant-loop-i : goal.invariant-loop-i
invariant-loop-i l = Filled l.readers 8 (reader_of_of l.bytes l.tile) l.i
