-- `columns` meets its contract: three shuffles, and one more.
use Rattle.numbers.specs.Words.{refl, sym, ◌∙◌}
use Rattle.deblock.specs.BlockLaws.{columns_shuffled, rows_shuffled}
use Rattle.deblock.proofs.blocks.columns.Goals as goal

pub returns : goal.returns
returns c = columns_shuffled _ refl refl (c.rows-a.ensures ∙ sym (rows_shuffled _ refl refl refl)) c.shuffled.ensures
