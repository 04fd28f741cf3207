use Rattle.numbers.specs.Words.{arith, sym, ◌∙◌}
use Rattle.reader.specs.TreesLaws.{tree_not, tree_entry, tree_fact, tree_start, entries_none, entries_next, tree_all}
use Rattle.reader.proofs.trees.tree_fine.Goals as goal

pub returns-then-n-ge32 : goal.returns-then-n-ge32
returns-then-n-ge32 c = tree_not _ _ _ (λ e. omega (arith, (tree_fact _ _ _ e).few))

pub returns-then-tree-n : goal.returns-then-tree-n
returns-then-tree-n c = tree_not _ _ _ (λ e. c.if-tree-n.true (tree_fact _ _ _ e).size)

pub returns-then-probs-n : goal.returns-then-probs-n
returns-then-probs-n c = tree_not _ _ _ (λ e. omega (arith, (tree_fact _ _ _ e).probs))

pub returns-then-n-start : goal.returns-then-n-start
returns-then-n-start c = tree_not _ _ _ (λ e. omega (arith, tree_start _ _ _ e))

pub loop-k-init : goal.loop-k-init
loop-k-init c = entries_none _ _

pub returns-then-not-leads : goal.returns-then-not-leads
returns-then-not-leads c = tree_not _ _ _ (tree_entry _ _ _ _ (omega arith) (sym c.leads.ensures ∙ c.if-not-leads.true))

pub loop-k-preserved : goal.loop-k-preserved
loop-k-preserved c = entries_next _ _ _ c.loop-k.invariant (sym c.leads.ensures ∙ c.if-not-leads.false)

pub returns : goal.returns
returns c = tree_all _ _ _ _ (omega arith) (omega arith) (omega arith) (omega arith) (omega arith) c.loop-k.invariant
