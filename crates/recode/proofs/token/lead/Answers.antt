use Rattle.numbers.specs.Words.{arith, ◌<◌}
use Rattle.recode.specs.TokenCopies.{lead_is}
use Rattle.recode.proofs.Bits.{byte_bit, byte_small}
use Rattle.recode.proofs.token.lead.Goals as goal

pub overflow_add-node : goal.overflow_add-node
overflow_add-node c = omega (arith, c.requires.node_bound)

pub overflow_add-node-2 : goal.overflow_add-node-2
overflow_add-node-2 c = let s : c.from.result < 2 = rw c.from.ensures (byte_small c.args.bit) in omega (arith, c.requires.node_bound)

pub bounds-tree-node : goal.bounds-tree-node
bounds-tree-node c = let s : c.from.result < 2 = rw c.from.ensures (byte_small c.args.bit) in omega (arith, c.requires.node_bound)

pub returns : goal.returns
returns c = rw (c.from-2.ensures, c.from.ensures, byte_bit c.args.bit) (lead_is c.args.node c.args.bit c.requires.tree_value c.requires.node_bound)
