use Rattle.recode_frame.specs.RecodeFrameLaws.{measured}
use Rattle.recode_frame.proofs.measure.Goals as goal

pub returns : goal.returns
returns c = measured c.args.bytes.now c.args.tile c.args.header.now c.part.ensures c.rewrite.ensures
