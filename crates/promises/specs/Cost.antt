-- Request M-103, how much a picture can cost: the symbols that the call reads from the first partition and from the token partitions.
-- `cost_of` (crates/picture/specs/Picture.antt) is what the call's two counts equal. CostLaws proves all of it.
use Rattle.std.specs.Prelude.{◌+◌, ◌*◌, ◌/◌, ◌≤◌, ◌≡◌, ◌++◌}
use Rattle.numbers.specs.Words.{ℕ, zero, suc, List, [], length, get_or}
use Rattle.reader.specs.Reading.{Given, given, missing, no_reader_of, CodedSymbol, trace}
use Rattle.header.specs.Frame.{factors_at}
use Rattle.modes.specs.Modes.{Macroblock, modes_of}
use Rattle.residual.specs.Residual.{residual_of}
use Rattle.lent.specs.Memory.{Memory}
use Rattle.macroblock.specs.Macroblock.{finished, no_modes, no_tokens, no_reads}
use Rattle.choices.specs.Choices.{Call}
use Rattle.picture.specs.Picture.{Picture, State, column_of, partition_of, around_at, step_at, next_of, pictured_of, begun_of, picture_of, cost_of}
use Rattle.promises.specs.Refusals.{Bad}
use Rattle.promises.specs.Reached.{modes_asked}
use Rattle.promises.specs.Stops.{macroblocks}
use Rattle.promises.specs.Isolation.{SameTokens, Stopped}

-- ---- the bound
-- THE PROMISE: at most 119 symbols a macroblock from the first partition and 7296 from token partitions, over the k macroblocks
-- finished and, after 6 or 7, one more
pub record CostAtMost (t : Call) (m : Memory) : Type 0 where
  -- 0: all of them are finished
  pub whole : (k : ℕ) → Stopped (picture_of t m) 0 k → ((cost_of t m).first ≤ 119 * k) × ((cost_of t m).tokens ≤ 7296 * k)
  -- 6 and 7: one more was begun
  pub modes : (k : ℕ) → Stopped (picture_of t m) 6 k → ((cost_of t m).first ≤ 119 * (k + 1)) × ((cost_of t m).tokens ≤ 7296 * (k + 1))
  pub tokens : (k : ℕ) → Stopped (picture_of t m) 7 k → ((cost_of t m).first ≤ 119 * (k + 1)) × ((cost_of t m).tokens ≤ 7296 * (k + 1))
  -- 1 to 5: nothing was read
  pub none : Bad t m → cost_of t m ≡ no_reads

-- ---- what is counted: the symbols of the definition, in order
-- those of macroblock k's modes, and those of its coefficients; where a byte is missing, the ones before it
abbrev pub mode_symbols : Picture → ℕ → State → List CodedSymbol
mode_symbols P k S = let a = around_at P S (column_of P k) in trace (modes_of P.frame.announced a.top.modes a.left.modes) P.first S.reader

-- those of its coefficients, its modes being given or not
abbrev pub symbols_after : Picture → ℕ → State → Given Macroblock → List CodedSymbol
symbols_after P k S missing = []
symbols_after P k S (given m next) =
    let a = around_at P S (column_of P k) in
    trace (residual_of P.table (factors_at P.frame m.segment) m.small m.skip a.top.flags a.left.flags)
    (P.token (partition_of P k)) (get_or S.readers (partition_of P k) no_reader_of)

-- and by what its modes are
abbrev pub token_symbols : Picture → ℕ → State → List CodedSymbol
token_symbols P k S = symbols_after P k S (modes_asked P k S)

-- one list a macroblock, n of them from number k on, until one is refused, and that one's too
unfoldable pub symbols_from : (Picture → ℕ → State → List CodedSymbol) → ℕ → Picture → ℕ → State → List CodedSymbol
symbols_from f zero P k S = []
symbols_from f (suc n) P k S =
    elim (step_at P k S) [
      | finished x ↦ f P k S ++ symbols_from f n P (k + 1) (next_of P k S x)
      | no_modes ↦ f P k S
      | no_tokens ↦ f P k S
    ]

-- THE PROMISE: the two counts are the lengths of these lists
pub record CostIs (t : Call) (m : Memory) : Type 0 where
  pub first : (cost_of t m).first ≡ length (symbols_from mode_symbols (macroblocks t) (pictured_of t) 0 (begun_of t m))
  pub tokens : (cost_of t m).tokens ≡ length (symbols_from token_symbols (macroblocks t) (pictured_of t) 0 (begun_of t m))

-- ---- demand 3: where row p exists the counts may differ. Where it does not, or nothing differs, or partition p is past the count, they
-- agree as all else does
pub record SameCosts (p : ℕ) (t u : Call) (m n : Memory) : Type 0 where
  pub no_row : t.tile.height / 16 ≤ p → cost_of t m ≡ cost_of u n
  pub no_difference : SameTokens t u p → cost_of t m ≡ cost_of u n
  pub ignored : t.tile.count ≤ p → cost_of t m ≡ cost_of u n
