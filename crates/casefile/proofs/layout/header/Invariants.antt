use Rattle.numbers.specs.Words.{Filled}
use Rattle.casefile.specs.CaseFile.{entry_at}
use Rattle.casefile.proofs.layout.header.Given as goal

abbrev pub invariant-loop-i : goal.invariant-loop-i
invariant-loop-i l = Filled l.h 1096 (entry_at l.file) l.i
