use Rattle.reader.specs.Reading.{to_read}
use Rattle.reader.specs.ReadingLaws.{Valid, run_valid}
use Rattle.modes.specs.ModesLaws.{segment_within, skip_within, prefix_within}
use Rattle.modes.proofs.Careful.{told, read_gave, read_missing, prefix_parts, three_1, three_2, three_3, three_4}
use Rattle.modes.proofs.prefix.head.Goals as goal
use Rattle.modes.proofs.prefix.head.Goals.{In-Ok}

-- the reader after the segment is in range
valid : (c : In-Ok) → Valid c.args.s.now c.in-Ok.t
valid c = (run_valid (segment_within c.args.a c.requires.probabilities) (λ i. (c.type_inv.s i).fits) c.requires.valid (read_gave c.segment-c.ensures c.in-Ok.is).gave).valid

pub returns-in_default : goal.returns-in_default
returns-in_default c = told to_read (prefix_within c.args.a c.requires.probabilities) (three_1 (prefix_parts c.args.a) (read_missing c.segment-c.ensures c.in_default.is))

pub skip-k-requires : goal.skip-k-requires
skip-k-requires c = record { valid = valid (goal.at.skip-k-requires c).In-Ok; probabilities = c.requires.probabilities }

pub returns-in_default-answer : goal.returns-in_default-answer
returns-in_default-answer c = told to_read (prefix_within c.args.a c.requires.probabilities) (three_2 (prefix_parts c.args.a) (read_gave c.segment-c.ensures c.in-Ok.is) (read_missing c.skip-k.ensures c.in_default-answer.is))

pub ask-l-requires : goal.ask-l-requires
ask-l-requires c = (run_valid (skip_within c.args.a c.requires.probabilities) (λ i. (c.type_inv.s i).fits) (valid (goal.at.ask-l-requires c).In-Ok) (read_gave c.skip-k.ensures c.in-Ok-answer.is).gave).valid

pub returns-in_default-answer-2 : goal.returns-in_default-answer-2
returns-in_default-answer-2 c = told to_read (prefix_within c.args.a c.requires.probabilities) (three_3 (prefix_parts c.args.a) (read_gave c.segment-c.ensures c.in-Ok.is) (read_gave c.skip-k.ensures c.in-Ok-answer.is) (read_missing c.ask-l.ensures c.in_default-answer-2.is))

pub returns : goal.returns
returns c = told to_read (prefix_within c.args.a c.requires.probabilities) (three_4 (prefix_parts c.args.a) (read_gave c.segment-c.ensures c.in-Ok.is) (read_gave c.skip-k.ensures c.in-Ok-answer.is) (read_gave c.ask-l.ensures c.in-Ok-answer-2.is))
