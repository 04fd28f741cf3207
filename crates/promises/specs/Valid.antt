-- Demand 2, what replaces the source's clauses on contexts and limits. After 1 to 5 nothing changed, so there is nothing to say.
use Rattle.std.specs.Prelude.{◌≤◌}
use Rattle.numbers.specs.Words.{ℕ}
use Rattle.reader.specs.Reading.{Bytes}
use Rattle.lent.specs.Memory.{Columns, strength_at_of, Memory}
use Rattle.choices.specs.Choices.{Call}
use Rattle.picture.specs.Picture.{picture_of}
use Rattle.picture.specs.FinalLaws.{picture_final}
use Rattle.promises.specs.Refusals.{Fine}

-- THE PROMISES, after 0, 6 and 7: every context in column memory is in range, four modes below 10 and nine flags below 2
pub final_contexts_valid : (t : Call) (m : Memory) → Bytes t.bytes → Fine t m → Columns t.form (picture_of t m).mem.columns
final_contexts_valid t m b e = (picture_final t m e b).contexts

-- and every macroblock's limit is at most 189
pub limits_at_most_189 : (t : Call) (m : Memory) → Bytes t.bytes → Fine t m → (k : ℕ) → (strength_at_of (picture_of t m).mem.strengths k).limit ≤ 189
limits_at_most_189 t m b e = (picture_final t m e b).limits
