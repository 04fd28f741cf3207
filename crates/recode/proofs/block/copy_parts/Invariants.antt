use Rattle.recode.specs.BlockCopies.{Parting}
use Rattle.recode.proofs.block.copy_parts.Given as goal

abbrev pub invariant-loop-j : goal.invariant-loop-j
invariant-loop-j l = Parting l.table l.small l.s l.initial.m l.initial.out l.m l.j l.out
