use Rattle.numbers.specs.Words.{arith, refl, copy_whole}
use Rattle.recode_frame.specs.RecodeFrameLaws.{head_fits, lay_done}
use Rattle.recode_frame.proofs.lay.Goals as goal

pub returns : goal.returns
returns c =
    lay_done c.args.bytes.now c.args.n c.args.out.now c.requires.1 c.part-head.ensures (copy_whole c.part-head.result.now c.args.out.now c.copy.ensures (head_fits c.args.bytes.now (omega (arith, c.requires.2)) c.part-head.ensures)) c.put_tag.ensures c.args.tile c.args.header.now c.requires.2
    c.part.ensures c.rewrite.ensures refl
