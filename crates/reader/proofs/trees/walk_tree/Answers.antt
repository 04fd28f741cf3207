-- `walk_tree` meets its contract: the tests are the definition's, and behind them the walk asks nothing more.
use Rattle.numbers.specs.Words.{sym, ◌∙◌, both_left, both_right}
use Rattle.reader.specs.ReadingLaws.{valid_fact}
use Rattle.reader.specs.TreesLaws.{tree_fact, tree_start}
use Rattle.reader.specs.CountsLaws.{walk_refused, walk_made}
use Rattle.reader.proofs.trees.walk_tree.Goals as goal

pub returns-then-not-valid-tree_fine : goal.returns-then-not-valid-tree_fine
returns-then-not-valid-tree_fine c = walk_refused _ _ _ _ _ c.valid.ensures c.tree_fine.ensures c.if-not-valid-tree_fine.true

pub walk-requires : goal.walk-requires
walk-requires c =
    let e = sym c.tree_fine.ensures ∙ both_right c.valid.result _ c.if-not-valid-tree_fine.false in
    record { valid = valid_fact _ _ (sym c.valid.ensures ∙ both_left _ _ c.if-not-valid-tree_fine.false); tree = tree_fact _ _ _ e; i_bound = tree_start _ _ _ e }

pub returns : goal.returns
returns c = walk_made _ _ _ _ _ c.valid.ensures c.tree_fine.ensures c.if-not-valid-tree_fine.false c.walk.ensures
