use Rattle.profile.specs.ProfileLaws.{judged_named, judged_fits}
use Rattle.profile.proofs.both.judged.Goals as goal

pub returns-then-k-blocks : goal.returns-then-k-blocks
returns-then-k-blocks c = judged_named _ _ _ c.first_both-k.ensures c.if-k-blocks.true

pub returns : goal.returns
returns c = judged_fits _ _ _ c.first_both-k.ensures c.if-k-blocks.false
