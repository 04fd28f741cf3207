use Rattle.residual.specs.Residual.{blocks_from}
use Rattle.residual.specs.Parts.{model_of}
use Rattle.residual.proofs.Turns.{Going}
use Rattle.residual.proofs.blocks.blocks.Given as goal

abbrev pub invariant-loop-i : goal.invariant-loop-i
invariant-loop-i l = Going l.s l.table l.f l.small (blocks_from l.table l.f l.small 24 0 (model_of l.initial.m l.initial.flat)) l.initial.m.reader l.i l.m l.flat l.reads
