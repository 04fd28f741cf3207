use Rattle.modes.proofs.Steps.{reads_modes}
use Rattle.modes.proofs.quick.quick.Goals as goal

pub returns : goal.returns
returns c = reads_modes _ _ _ _ c.head.ensures c.luma.ensures c.chroma-chroma.ensures
