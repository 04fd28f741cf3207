use Rattle.numbers.specs.Words.{Filled}
use Rattle.casefile.specs.CaseFile.{slot_of}
use Rattle.casefile.proofs.layout.spans.Given as goal

abbrev pub invariant-loop-i : goal.invariant-loop-i
invariant-loop-i l = Filled l.all 8 (slot_of l.file) l.i
