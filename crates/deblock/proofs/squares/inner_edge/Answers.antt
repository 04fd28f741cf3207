-- `inner_edge` meets its contract.
use Rattle.deblock.specs.Located.{square_level}
use Rattle.deblock.specs.DeblockLaws.{inner_vertical, inner_horizontal}
use Rattle.deblock.proofs.squares.inner_edge.Goals as goal

pub horizontal-requires : goal.horizontal-requires
horizontal-requires c = record { level = square_level c.requires.square c.requires.beside.size c.args.j c.requires.j_bound; beside = c.requires.beside }

pub returns-then-upright : goal.returns-then-upright
returns-then-upright c = record { p_after = inner_vertical _ _ _ _ _ _ _ _ c.if-upright.true c.vertical.ensures.p_after; q_after = inner_vertical _ _ _ _ _ _ _ _ c.if-upright.true c.vertical.ensures.q_after }

pub returns-else-upright : goal.returns-else-upright
returns-else-upright c = record { p_after = inner_horizontal _ _ _ _ _ _ _ _ c.if-upright.false c.horizontal.ensures.p_after; q_after = inner_horizontal _ _ _ _ _ _ _ _ c.if-upright.false c.horizontal.ensures.q_after }
