use Rattle.numbers.specs.Words.{sym, ◌∙◌, ap}
use Rattle.reader.specs.Reading.{first_reader}
use Rattle.tile.specs.PartitionsLaws.{reader_none, reader_first}
use Rattle.tile.proofs.partitions.opener.Goals as goal

pub returns-then-tile-i : goal.returns-then-tile-i
returns-then-tile-i c = c.no_reader.ensures ∙ sym (reader_none _ _ _ c.if-tile-i.true)

pub returns : goal.returns
returns c = c.«open».ensures ∙ ap first_reader c.token.ensures ∙ sym (reader_first _ _ _ c.if-tile-i.false)
