use Rattle.modes.proofs.Counted.{Summed}
use Rattle.modes.proofs.counts.small_reads.Given as goal

abbrev pub invariant-loop-mode : goal.invariant-loop-mode
invariant-loop-mode l = Summed l.modes l.mode-index l.reads
