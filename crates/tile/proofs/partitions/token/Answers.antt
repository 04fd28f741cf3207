use Rattle.numbers.specs.Words.{◌∙◌, ap}
use Rattle.tile.specs.Tile.{contents_of}
use Rattle.tile.proofs.partitions.token.Goals as goal

pub returns : goal.returns
returns c = c.part.ensures ∙ ap (contents_of _) c.span.ensures
