-- `rows` meets its contract: three shuffles.
use Rattle.deblock.specs.BlockLaws.{rows_shuffled}
use Rattle.deblock.proofs.blocks.rows.Goals as goal

pub returns : goal.returns
returns c = rows_shuffled _ c.shuffled-a.ensures c.shuffled-b.ensures c.shuffled.ensures
