use Rattle.numbers.specs.Words.{replicate}
use Rattle.recode.specs.TokenCopies.{Taking}
use Rattle.recode_frame.proofs.bits.copy_bits.Given as goal

abbrev pub invariant-loop-i : goal.invariant-loop-i
invariant-loop-i l = Taking l.s (replicate l.n 128) l.initial.next l.initial.out l.next l._i l.out
