-- `entries` meets its contract: the array is filled, entry by entry.
use Rattle.numbers.specs.Words.{arith, refl, filled_none, filled_next, filled_all, called, w32}
use Rattle.header.specs.Header.{entry_count}
use Rattle.try_singles.proofs.entries.Goals as goal

pub loop-i-init : goal.loop-i-init
loop-i-init c = filled_none _ entry_count _ refl

pub loop-i-preserved : goal.loop-i-preserved
loop-i-preserved c = filled_next _ (omega arith) (called w32 c.entry.ensures.0 c.entry.ensures.1 tt).eq c.loop-i.invariant

pub returns : goal.returns
returns c = filled_all (omega arith) c.loop-i.invariant
