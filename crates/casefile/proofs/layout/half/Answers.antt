use Rattle.casefile.specs.CaseFileLaws.{half_is}
use Rattle.casefile.proofs.layout.half.Goals as goal

pub returns : goal.returns
returns c = half_is _ _ c.byte.ensures c.byte-2.ensures
