use Rattle.casefile.specs.CaseFileLaws.{word_is}
use Rattle.casefile.proofs.layout.word.Goals as goal

pub returns : goal.returns
returns c = word_is _ _ c.half.ensures c.half-2.ensures
