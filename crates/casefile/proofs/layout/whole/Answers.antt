use Rattle.numbers.specs.Words.{arith}
use Rattle.casefile.specs.CaseFileLaws.{not_whole, whole_rest}
use Rattle.casefile.proofs.layout.whole.Goals as goal

pub returns-then-file-n : goal.returns-then-file-n
returns-then-file-n c = not_whole _ (omega arith)

pub returns : goal.returns
returns c = rw (c.start_at.ensures, c.count-n.ensures.0) (whole_rest _ (omega arith))
