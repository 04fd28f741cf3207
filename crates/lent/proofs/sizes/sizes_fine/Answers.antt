use Rattle.lent.specs.Memory.{sizes_fine_of}
use Rattle.lent.proofs.sizes.sizes_fine.Goals as goal

pub returns : goal.returns
unfolding sizes_fine_of
returns c = rw (c.luma_fine.ensures, c.chroma_fine.ensures, c.chroma_fine-2.ensures, c.columns_fine.ensures, c.modes_fine.ensures, c.strengths_fine.ensures)
