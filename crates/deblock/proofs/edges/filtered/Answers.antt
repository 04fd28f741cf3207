-- `filtered` meets its contract: a position a turn.
use Rattle.numbers.specs.Words.{arith, ◌≡◌, sym, ◌∙◌}
use Rattle.deblock.specs.DeblockLaws.{length_edge}
use Rattle.deblock.specs.BlockLaws.{sweep_none, block_room, block_next}
use Rattle.deblock.proofs.edges.filtered.Goals as goal

pub loop-i-init : goal.loop-i-init
loop-i-init c = (omega arith, sym (sweep_none _ _ _ _ _))

pub across-e-requires : goal.across-e-requires
across-e-requires c = block_room _ _ c.loop-i.i c.loop-i.i c.loop-i.invariant.1 c.requires.t_len (omega arith)

pub put_six-requires : goal.put_six-requires
put_six-requires c = block_room _ _ c.loop-i.i c.loop-i.i c.loop-i.invariant.1 c.requires.t_len (omega arith)

pub loop-i-preserved : goal.loop-i-preserved
loop-i-preserved c = (omega arith, c.put_six.ensures ∙ block_next c.args.g c.args.t.now c.loop-i.i (omega arith) c.loop-i.invariant.1 c.requires.m_value c.across-e.ensures c.straight-f.ensures)

pub shape_of-t : goal.shape_of-t
shape_of-t c = rw c.loop-i.invariant.1 (length_edge _ _ _ _ _ _)

pub returns : goal.returns
returns c = let e : c.loop-i.i ≡ 16 = omega arith in rw e at c.loop-i.invariant.1
