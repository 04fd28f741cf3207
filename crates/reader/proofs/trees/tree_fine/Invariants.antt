use Rattle.numbers.specs.Words.{◌≡◌, true}
use Rattle.reader.specs.Trees.{tree_entries}
use Rattle.reader.proofs.trees.tree_fine.Given as goal

abbrev pub invariant-loop-k : goal.invariant-loop-k
invariant-loop-k l = tree_entries l.n l.tree l.k ≡ true
