use Rattle.modes.specs.CountsLaws.{chroma_bounded}
use Rattle.modes.proofs.counts.chroma_reads.Goals as goal

pub returns : goal.returns
returns c = chroma_bounded c.args.mode (rw c.from.ensures at c.from-2.ensures)
