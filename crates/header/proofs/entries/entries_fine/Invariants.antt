use Rattle.numbers.specs.Words.{◌≡◌, true}
use Rattle.header.specs.Header.{fine_to}
use Rattle.header.proofs.entries.entries_fine.Given as goal

abbrev pub invariant-loop-x : goal.invariant-loop-x
invariant-loop-x l = fine_to l.h l.x-index ≡ true
