use Rattle.told.specs.ToldLaws.{profile_told_lem}
use Rattle.told.proofs.profiled.tell_profile.Goals as goal

pub returns : goal.returns
returns c = profile_told_lem c.args.answer c.number.ensures c.rule_failed.ensures c.macroblock_named.ensures
