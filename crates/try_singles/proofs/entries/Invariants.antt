use Rattle.numbers.specs.Words.{◌-◌, Filled}
use Rattle.header.specs.Header.{entry_count}
use Rattle.try_singles.specs.Cases.{entry_at}
use Rattle.try_singles.proofs.entries.Given as goal

abbrev pub invariant-loop-i : goal.invariant-loop-i
invariant-loop-i l = Filled l.h entry_count (entry_at l.list) l.i

abbrev pub decreases-loop-i : goal.decreases-loop-i
decreases-loop-i l = entry_count - l.i
