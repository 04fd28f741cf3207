use Rattle.recode.specs.BlockCopies.{Blocking}
use Rattle.recode.proofs.block.copy_block.Given as goal

abbrev pub invariant-loop-n : goal.invariant-loop-n
invariant-loop-n l = Blocking l.table l.kind l.ctx l.first l.s l.initial.next l.initial.out l.next l.n l.context l.zero l.out
