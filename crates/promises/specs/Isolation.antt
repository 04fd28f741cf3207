-- Demand 3, isolation: token partition p, where it lies, how long it is and what stands in it, decides nothing in the macroblock rows above row p,
-- and no modes.
-- `isolated`, in IsolationLaws, proves it.
use Rattle.std.specs.Prelude.{◌+◌, ◌*◌, ◌/◌, ◌≤◌, ◌<◌, ◌≡◌}
use Rattle.numbers.specs.Words.{ℕ}
use Rattle.lent.specs.Memory.{mode_width, strength_width, Memory}
use Rattle.tile.specs.Tile.{contents_of, token_contents}
use Rattle.choices.specs.Choices.{Call, number_of, values_of}
use Rattle.picture.specs.Picture.{Ended, picture_of}
use Rattle.promises.specs.Places.{Plane, plane_side, sample_of, mode_byte, strength_byte}

-- ---- what is compared
-- token partition q of two tiles has the same bytes, wherever it lies in each
abbrev pub SameTokens : Call → Call → ℕ → Type 0
SameTokens t u q = token_contents t.bytes t.tile q ≡ token_contents u.bytes u.tile q

-- two tiles alike in all but token partition p, which may lie elsewhere, be longer or shorter and have other bytes: size, count, header, starting
-- reader, and the bytes of the first partition and of every other token partition below the count; and column memory of one form
pub record Alike (p : ℕ) (t u : Call) : Type 0 where
  pub width : t.tile.width ≡ u.tile.width
  pub height : t.tile.height ≡ u.tile.height
  pub count : t.tile.count ≡ u.tile.count
  pub header : t.header ≡ u.header
  pub form : t.form ≡ u.form
  pub reader : t.tile.reader ≡ u.tile.reader
  pub first : contents_of t.bytes t.tile.first ≡ contents_of u.bytes u.tile.first
  pub tokens : (q : ℕ) → q < t.tile.count → (q ≡ p → ⊥) → SameTokens t u q

-- the picture call answers with this number, k macroblocks being finished
abbrev pub Stopped : Ended → (number k : ℕ) → Type 0
Stopped E number k = (number_of E.answer ≡ number) × (values_of E.answer ≡ k)

-- THE PROMISE, a field for each sentence of demand 3, of the calls for two such tiles
pub record Isolated (p : ℕ) (t u : Call) (m n : Memory) : Type 0 where
  -- all macroblock rows above row p get the same samples of Y, U and V, the same modes and the same strengths
  pub samples : (a : Plane) (c r : ℕ) → c < t.tile.width / 16 * plane_side a → r < p * plane_side a
      → sample_of (t.tile.width / 16) a c r (picture_of t m).mem ≡ sample_of (t.tile.width / 16) a c r (picture_of u n).mem
  pub modes : (i : ℕ) → i < p * (t.tile.width / 16) * mode_width → mode_byte i (picture_of t m).mem ≡ mode_byte i (picture_of u n).mem
  pub strengths : (i : ℕ) → i < p * (t.tile.width / 16) * strength_width → strength_byte i (picture_of t m).mem ≡ strength_byte i (picture_of u n).mem
  -- a stop in those rows comes in both, at one macroblock with one number
  pub stops : (number k : ℕ) → k < p * (t.tile.width / 16) → Stopped (picture_of t m) number k → Stopped (picture_of u n) number k
  pub stops_too : (number k : ℕ) → k < p * (t.tile.width / 16) → Stopped (picture_of u n) number k → Stopped (picture_of t m) number k
  -- each macroblock finished in both has the same modes
  pub kinds : (k i : ℕ) → k < values_of (picture_of t m).answer → k < values_of (picture_of u n).answer → i < mode_width
      → mode_byte (k * mode_width + i) (picture_of t m).mem ≡ mode_byte (k * mode_width + i) (picture_of u n).mem
  -- if no row p exists, or nothing differs, or partition p is past the count, answers and all memory agree
  pub no_row : t.tile.height / 16 ≤ p → picture_of t m ≡ picture_of u n
  pub no_difference : SameTokens t u p → picture_of t m ≡ picture_of u n
  pub ignored : t.tile.count ≤ p → picture_of t m ≡ picture_of u n
