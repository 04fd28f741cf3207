use Rattle.numbers.specs.Words.{arith}
use Rattle.reader.specs.ReadingLaws.{Valid, run_valid}
use Rattle.modes.specs.Modes.{to_staged}
use Rattle.modes.specs.ModesLaws.{prefix_within, luma_within, modes_within}
use Rattle.modes.proofs.Careful.{told, read_gave, read_missing, modes_parts, three_1, three_2, three_3, three_4}
use Rattle.modes.proofs.whole.stage.Goals as goal
use Rattle.modes.proofs.whole.stage.Goals.{In-Ok}

-- the reader after the prefix is in range
valid : (c : In-Ok) → Valid c.args.s.now c.in-Ok.t
valid c = (run_valid (prefix_within c.args.a c.requires.probabilities) (λ i. (c.type_inv.s i).fits) c.requires.valid (read_gave c.head-h.ensures c.in-Ok.is).gave).valid

pub returns-in_default : goal.returns-in_default
returns-in_default c = told (to_staged c.args.modes.now) (modes_within c.args.a c.requires.probabilities c.args.top.now c.args.left.now) (three_1 (modes_parts c.args.a c.args.top.now c.args.left.now) (read_missing c.head-h.ensures c.in_default.is))

pub luma-l-requires : goal.luma-l-requires
luma-l-requires c = record { valid = valid (goal.at.luma-l-requires c).In-Ok; modes = c.requires.modes }

pub returns-in_default-answer : goal.returns-in_default-answer
returns-in_default-answer c = told (to_staged c.args.modes.now) (modes_within c.args.a c.requires.probabilities c.args.top.now c.args.left.now) (three_2 (modes_parts c.args.a c.args.top.now c.args.left.now) (read_gave c.head-h.ensures c.in-Ok.is) (read_missing c.luma-l.ensures c.in_default-answer.is))

pub large_mode-c-requires : goal.large_mode-c-requires
large_mode-c-requires c =
    (run_valid (luma_within c.in-Ok.p.small c.args.top.now c.args.left.now) (λ i. (c.type_inv.s i).fits) (valid (goal.at.large_mode-c-requires c).In-Ok) (read_gave c.luma-l.ensures c.in-Ok-answer.is).gave).valid

pub overflow_add-three : goal.overflow_add-three
overflow_add-three c = omega (arith, c.head-h.ensures.1.1, c.luma-l.ensures.1.1, c.large_mode-c.ensures.1.1)

pub returns-in_default-answer-2 : goal.returns-in_default-answer-2
returns-in_default-answer-2 c = told (to_staged c.args.modes.now) (modes_within c.args.a c.requires.probabilities c.args.top.now c.args.left.now) (three_3 (modes_parts c.args.a c.args.top.now c.args.left.now) (read_gave c.head-h.ensures c.in-Ok.is) (read_gave c.luma-l.ensures c.in-Ok-answer.is) (read_missing c.large_mode-c.ensures c.in_default-answer-2.is))

pub returns : goal.returns
returns c = told (to_staged c.args.modes.now) (modes_within c.args.a c.requires.probabilities c.args.top.now c.args.left.now) (three_4 (modes_parts c.args.a c.args.top.now c.args.left.now) (read_gave c.head-h.ensures c.in-Ok.is) (read_gave c.luma-l.ensures c.in-Ok-answer.is) (read_gave c.large_mode-c.ensures c.in-Ok-answer-2.is))
