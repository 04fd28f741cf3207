use Rattle.recode.specs.WalkCopies.{Walking}
use Rattle.recode.proofs.walk.walk.Given as goal

abbrev pub invariant-loop-k : goal.invariant-loop-k
invariant-loop-k l = Walking l.bytes l.tile l.frame l.table l.initial.columns l.initial.out l.k l.r l.readers l.left l.w l.columns l.out
