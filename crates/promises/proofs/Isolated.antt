-- The third demand on the picture call. It stands here since a fault in its statement (must-fail/row_p_too) is to be told at its proof.
use Rattle.numbers.specs.Words.{ℕ}
use Rattle.reader.specs.ReadingLaws.{Bytes}
use Rattle.lent.specs.Memory.{Memory}
use Rattle.choices.specs.Choices.{Call}
use Rattle.promises.specs.Refusals.{Fine}
use Rattle.promises.specs.Isolation.{Alike, Isolated}
use Rattle.promises.specs.IsolationLaws.{both_calls}

-- DEMAND 3: for any two tiles alike in all but token partition p, whatever its start, length and bytes, with any old contents in memory, neither being
-- refused. As it was written, partition p is as long in both: less is asked here.
-- That the bytes are bytes is what the call's type says
pub isolated : (p : ℕ) (t u : Call) (m n : Memory) → Alike p t u → Fine t m → Fine u n → Bytes t.bytes → Bytes u.bytes → Isolated p t u m n
isolated = both_calls
