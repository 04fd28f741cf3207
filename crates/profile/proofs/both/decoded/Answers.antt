use Rattle.profile.specs.ProfileLaws.{decoded_stopped, decoded_whole}
use Rattle.profile.proofs.both.decoded.Goals as goal

pub returns-then-number-ne0 : goal.returns-then-number-ne0
returns-then-number-ne0 c = decoded_stopped _ _ c.number-number.ensures c.if-number-ne0.true

pub returns : goal.returns
returns c = decoded_whole _ _ c.number-number.ensures c.if-number-ne0.false c.finished-blocks.ensures c.judged.ensures
