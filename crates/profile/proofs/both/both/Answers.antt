use Rattle.numbers.specs.Words.{ap, ◌&&◌}
use Rattle.lent.specs.declared.macroblocks.ModeRecord.{ModeRecord}
use Rattle.profile.proofs.both.both.Goals as goal

pub returns : goal.returns
returns c = ap (λ (r : ModeRecord). r.kinds.skip && r.kinds.small) c.read_mode_record-found.ensures
