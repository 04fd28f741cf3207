use Rattle.casefile.specs.CaseFileLaws.{tile_is}
use Rattle.casefile.proofs.layout.tile_of.Goals as goal

pub returns : goal.returns
returns c =
    tile_is _ c.span_at-first.ensures c.spans.ensures c.part.ensures c.before.before.before.«open».ensures
    c.count.ensures.0 c.width.ensures c.height.ensures
