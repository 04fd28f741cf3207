use Rattle.numbers.specs.Words.{arith, sym, ◌∙◌}
use Rattle.reader.proofs.Turns.{walking_start, walking_end, walking_missing, walking_leaf, walking_node}
use Rattle.reader.proofs.trees.walk.Goals as goal

pub loop-reads-init : goal.loop-reads-init
loop-reads-init c = walking_start c.requires.valid c.requires.i_bound

pub down-requires : goal.down-requires
down-requires c = record { valid = c.loop-reads.invariant.valid; tree = c.requires.tree; i_bound = c.loop-reads.invariant.inside }

pub returns-in-Ok-Leaf-default : goal.returns-in-Ok-Leaf-default
returns-in-Ok-Leaf-default c = let h = c.in-Ok-Leaf-default.is in let k = c.in-Ok-Leaf-default.field-0-0-is in walking_leaf c.loop-reads.invariant c.loop-reads-test.true (sym (rw c.in-Ok-Leaf-default.field-0-0-is at c.in-Ok-Leaf-default.is) ∙ c.down.ensures)

pub returns-in-Err : goal.returns-in-Err
returns-in-Err c = walking_missing c.loop-reads.invariant c.loop-reads-test.true (sym c.in-Err.is ∙ c.down.ensures)

pub loop-reads-preserved : goal.loop-reads-preserved
loop-reads-preserved c = walking_node c.loop-reads.invariant c.loop-reads-test.true (λ i. (c.type_inv.s i).fits) (λ i. (c.type_inv.probs i).fits) c.requires.tree (sym (rw c.in-Ok-Node-default.field-0-0-is at c.in-Ok-Node-default.is) ∙ c.down.ensures)

pub returns : goal.returns
returns c = walking_end c.loop-reads.invariant (omega arith)
