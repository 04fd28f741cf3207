use Rattle.recode_frame.specs.RecodeFrameLaws.{is_taken, frame_untaken, frame_taken_lem}
use Rattle.recode_frame.proofs.recode_frame.Goals as goal

pub returns-then-taken-ne0 : goal.returns-then-taken-ne0
returns-then-taken-ne0 c = frame_untaken _ _ _ c.take-t.ensures c.if-taken-ne0.true c.refused.ensures

pub recode_taken-requires : goal.recode_taken-requires
recode_taken-requires c = is_taken c.take-t.ensures c.if-taken-ne0.false

pub returns : goal.returns
returns c = frame_taken_lem _ _ _ c.take-t.ensures c.if-taken-ne0.false c.recode_taken.ensures
