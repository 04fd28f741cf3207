use Rattle.numbers.specs.Words.{◌-◌}
use Rattle.reader.specs.Token.{eleven_at}
use Rattle.recode.specs.TokenCopies.{Walking}
use Rattle.recode.proofs.token.copy_number.Given as goal

abbrev pub invariant-loop-i : goal.invariant-loop-i
invariant-loop-i l = Walking l.s (eleven_at l.table l.at) 2 l.initial.next l.initial.out l.next l.i l.out

abbrev pub decreases-loop-i : goal.decreases-loop-i
decreases-loop-i l = 23 - l.i
