-- `predict_small` meets its contract: the samples around the sub-block, the prediction from them, and that put into the plane.
use Rattle.numbers.specs.Words.{ℕ, ◌∙◌, ap, List, rules}
use Rattle.planes.specs.Paint.{painted}
use Rattle.planes.specs.Places.{lies_block}
use Rattle.planes.specs.PiecesLaws.{block_copied_lem}
use Rattle.planes.proofs.Turns.{small_is}
use Rattle.planes.proofs.blocks.predict_small.Goals as goal

pub put_block-requires : goal.put_block-requires
put_block-requires c = record { block = lies_block c.requires.lies; b_len = search rules }

pub returns : goal.returns
returns c =
    let e = small_is c.args.p.now c.args.w c.args.s.x c.args.s.y c.args.last c.args.right c.args.mode _ c.around-e.ensures c.small_block-b.ensures in
    c.put_block.ensures ∙ block_copied_lem c.args.w c.args.s.x c.args.s.y c.args.s.at c.requires.lies.at _ _ ∙ ap (λ (q : List ℕ). painted c.args.p.now c.args.w c.args.s.x c.args.s.y q) e
