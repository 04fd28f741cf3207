-- A macroblock read one part at a time: what the code's state stands for, what a part gives, and what every part asks and leaves.
use Rattle.std.specs.Prelude.{◌≡◌}
use Rattle.numbers.specs.Words.{ℕ, Option, Some, None, List, length, ℤ}
use Rattle.header.specs.Header.{probability_count}
use Rattle.reader.specs.declared.boolean.Reader.{Reader}
use Rattle.reader.specs.Reading.{Given, given, missing, Reading}
use Rattle.reader.specs.ReadingLaws.{Valid}
use Rattle.reader.specs.Counts.{Took}
use Rattle.coefficients.specs.Block.{block}
use Rattle.coefficients.specs.BlockLaws.{from_block}
use Rattle.reader.specs.declared.boolean.Counted.{Counted}
use Rattle.residual.specs.Residual.{Kind, Model, ModelInRange}
use Rattle.residual.specs.declared.blocks.State.{State}
use Rattle.residual.specs.declared.blocks.Turn.{Turn}

-- the code's state with the coefficients beside it
abbrev pub model_of : State → List ℤ → Model
model_of m l = record { top = m.top; left = m.left; coefficients = l; empty = m.empty }

-- what a part that ended, or not, gives
abbrev pub turn_of : List ℤ → Option State → Given Model
turn_of l (Some m) = given (model_of m l) m.reader
turn_of l None = missing

-- a part as the code read it: what it gave, and how many symbols it took
abbrev pub Part : Reading Model → List ℕ → Reader → Turn → List ℤ → Type 0
Part g s r t flat = Took g s r (turn_of flat t.state) t.reads

-- a block, the same
pub record BlockPart (table : List ℕ) (k : Kind) (ctx : ℕ) (old : List ℤ) (s : List ℕ) (r : Reader) (a : Counted ℕ) (l : List ℤ) : Type 0 where
  pub read : Took (block table k.kind k.q0 k.q1 ctx k.first old) s r (from_block l a.answer) a.reads

-- what every part asks, and leaves
pub record Held (s table : List ℕ) (m : State) (flat : List ℤ) : Type 0 where
  pub reader : Valid s m.reader
  pub size : length table ≡ probability_count
  pub whole : ModelInRange (model_of m flat)
