use Rattle.told.specs.ToldLaws.{rescue_told_lem}
use Rattle.told.proofs.rescued.tell_rescue.Goals as goal

pub returns : goal.returns
returns c = rescue_told_lem c.args.answer c.number.ensures c.saved.ensures
