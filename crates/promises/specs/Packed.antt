-- Request M-107: column memory packed into four bytes a column. The packed form and the one before it, of thirteen bytes, are the same state after
-- every macroblock, and all other answers and memory are equal. `same_after` and `same_call`, in PackedLaws, prove it. Both runs are `run_of`
-- and both calls `picture_of`, of one call but for its form.
use Rattle.std.specs.Prelude.{◌*◌, ◌/◌, ◌<◌, ◌≡◌}
use Rattle.numbers.specs.Words.{ℕ, length}
use Rattle.lent.specs.Memory.{packed, old, form_width, column_at, Memory}
use Rattle.macroblock.specs.declared.arguments.SymbolCounts.{SymbolCounts}
use Rattle.choices.specs.Choices.{Call, call_in}
use Rattle.picture.specs.Picture.{Ended, pictured_of, begun_of, run_of, picture_of, reads_from, cost_of}
use Rattle.promises.specs.Refusals.{Fine}

-- two lent memories of n columns, packed in the first and of the old form in the second; all else in them is equal
pub record Beside (n : ℕ) (m o : Memory) : Type 0 where
  pub y : m.y ≡ o.y
  pub u : m.u ≡ o.u
  pub v : m.v ≡ o.v
  pub modes : m.modes ≡ o.modes
  pub strengths : m.strengths ≡ o.strengths
  pub packed_long : length m.columns ≡ form_width packed * n
  pub old_long : length o.columns ≡ form_width old * n

-- the same state: besides, each column holds the same four modes and nine flags, packed or not
pub record SameState (n : ℕ) (m o : Memory) : Type 0 where
  pub beside : Beside n m o
  pub columns : (x : ℕ) → x < n → column_at packed m.columns x ≡ column_at old o.columns x

-- two runs that end the same way, in the same state, having read as many symbols
pub record SameEnd (n : ℕ) (E F : Ended) (r s : SymbolCounts) : Type 0 where
  pub answer : E.answer ≡ F.answer
  pub reads : r ≡ s
  pub memory : SameState n E.mem F.mem

-- THE PROMISE after every macroblock: after the first k, or those before the one that is refused
abbrev pub SameAfter : (k : ℕ) → Call → (m o : Memory) → Type 0
SameAfter k c m o =
    let P = pictured_of (call_in packed c) in
    let Q = pictured_of (call_in old c) in
    let S = begun_of (call_in packed c) m in
    let T = begun_of (call_in old c) o in
    SameEnd (c.tile.width / 16) (run_of k P 0 S) (run_of k Q 0 T) (reads_from k P 0 S) (reads_from k Q 0 T)

-- THE PROMISE of the call: answers, symbols read and all memory but the columns are equal, refusals included; and where no argument is refused the
-- columns hold the same
pub record SameCall (n : ℕ) (c : Call) (m o : Memory) : Type 0 where
  pub answer : (picture_of (call_in packed c) m).answer ≡ (picture_of (call_in old c) o).answer
  pub reads : cost_of (call_in packed c) m ≡ cost_of (call_in old c) o
  pub others : Beside n (picture_of (call_in packed c) m).mem (picture_of (call_in old c) o).mem
  pub columns : Fine (call_in packed c) m → SameState n (picture_of (call_in packed c) m).mem (picture_of (call_in old c) o).mem
