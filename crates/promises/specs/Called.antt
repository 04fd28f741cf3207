-- The demands over the call that C and Rust link, `hookbarley_decode`, whose contract equals `called_of` (crates/hookbarley/specs/Calls.antt): what
-- it returns, what it writes through `finished`, and the lent memory. CalledLaws proves both: `called_ends` and `called_isolated`.
use Rattle.std.specs.Prelude.{◌+◌, ◌*◌, ◌/◌, ◌≤◌, ◌<◌, ◌≡◌, ◌⊎◌}
use Rattle.numbers.specs.Words.{ℕ, List, length, get_or, ℤ}
use Rattle.reader.specs.declared.boolean.Reader.{Reader}
use Rattle.reader.specs.Reading.{Bytes, given, missing}
use Rattle.modes.specs.Modes.{Macroblock}
use Rattle.tile.specs.Tile.{Sides, Counted, Cut}
use Rattle.lent.specs.Memory.{Memory, sizes_of, mode_width, strength_width}
use Rattle.choices.specs.Choices.{Call, Bounded, Lengths}
use Rattle.picture.specs.Picture.{State, pictured_of, begun_of, picture_of, cost_of}
use Rattle.boundary.specs.TileNumbers.{FieldsFit}
use Rattle.hookbarley.specs.Calls.{PictureCalled, called_numbers, called_of}
use Rattle.promises.specs.Refusals.{Fine}
use Rattle.promises.specs.Reached.{Reached, modes_asked, tokens_asked}
use Rattle.promises.specs.Stops.{macroblocks}
use Rattle.promises.specs.Places.{Plane, plane_side, sample_of, mode_byte, strength_byte}
use Rattle.promises.specs.Grey.{done, FinishedOrGrey}
use Rattle.promises.specs.Isolation.{SameTokens}

-- DEMAND 1, every way in which the call ends: its number, the macroblocks finished, the symbols read, the memory. `c` is the picture call that
-- the numbers of the tile make
pub record CalledEnds (bytes : List ℕ) (header : List ℤ) (tile : List ℕ) (c : Call) (m : Memory) : Type 0 where
  -- 9: not 28 numbers
  pub nine : (length tile ≡ 28 → ⊥) → called_of bytes header tile m ≡ called_numbers 9 0 0 0 m
  -- 1 to 5: the first check that fails; none finished, no symbol read, and nothing changed
  pub one : length tile ≡ 28 → (Sides c.tile.width c.tile.height → ⊥) → called_of bytes header tile m ≡ called_numbers 1 0 0 0 m
  pub two : length tile ≡ 28 → Sides c.tile.width c.tile.height → (Counted c.tile.count → ⊥) → called_of bytes header tile m ≡ called_numbers 2 0 0 0 m
  pub three : length tile ≡ 28 → Sides c.tile.width c.tile.height → Counted c.tile.count → (Bounded c.header → ⊥) → called_of bytes header tile m ≡ called_numbers 3 0 0 0 m
  pub four : length tile ≡ 28 → Sides c.tile.width c.tile.height → Counted c.tile.count → Bounded c.header → (Lengths c (sizes_of m) → ⊥) → called_of bytes header tile m ≡ called_numbers 4 0 0 0 m
  pub five : length tile ≡ 28 → Sides c.tile.width c.tile.height → Counted c.tile.count → Bounded c.header → Lengths c (sizes_of m) → (Cut c.bytes c.tile → ⊥)
      → called_of bytes header tile m ≡ called_numbers 5 0 0 0 m
  -- check 5 passes only where the reader's range, shifts and window fit their fields: a number too large is a bad starting reader
  pub fields : Cut c.bytes c.tile → FieldsFit (get_or tile 25 0) (get_or tile 26 0) (get_or tile 27 0)
  -- 0, 6 or 7 where none fails, and each where it must be: all are finished; the modes of macroblock k ask for what the first partition lacks; its
  -- modes are there, and its tokens ask for what its token partition lacks. Memory is as the last one that is finished left it
  pub ends : length tile ≡ 28 → Fine c m → ((called_of bytes header tile m).number ≡ 0) ⊎ ((called_of bytes header tile m).number ≡ 6) ⊎ ((called_of bytes header tile m).number ≡ 7)
  pub whole : length tile ≡ 28 → Fine c m → {S : State} → Reached (pictured_of c) (begun_of c m) (macroblocks c) S → called_of bytes header tile m ≡ called_numbers 0 (macroblocks c) (cost_of c m).first (cost_of c m).tokens S.mem
  pub modes : length tile ≡ 28 → Fine c m → {k : ℕ} {S : State} → k < macroblocks c → Reached (pictured_of c) (begun_of c m) k S → modes_asked (pictured_of c) k S ≡ missing
      → called_of bytes header tile m ≡ called_numbers 6 k (cost_of c m).first (cost_of c m).tokens S.mem
  pub tokens : length tile ≡ 28 → Fine c m → {k : ℕ} {S : State} {x : Macroblock} {r : Reader} → k < macroblocks c → Reached (pictured_of c) (begun_of c m) k S
      → modes_asked (pictured_of c) k S ≡ given x r → tokens_asked (pictured_of c) k S x ≡ missing → called_of bytes header tile m ≡ called_numbers 7 k (cost_of c m).first (cost_of c m).tokens S.mem
  -- what it finished and what it left is the picture call's, of which `FinishedOrGrey` tells every sample and byte
  pub finished : length tile ≡ 28 → (called_of bytes header tile m).finished ≡ done c m
  pub memory : length tile ≡ 28 → (called_of bytes header tile m).mem ≡ (picture_of c m).mem
  pub grey : Bytes c.bytes → Fine c m → FinishedOrGrey c m

-- DEMAND 3, of what two calls leave for tiles alike in all but the bytes of token partition p, `wide` macroblocks to a row: a field for each sentence
pub record CalledIsolated (p : ℕ) (t u : Call) (E F : PictureCalled) : Type 0 where
  -- all macroblock rows above row p get the same samples of Y, U and V, the same modes and the same strengths
  pub samples : (a : Plane) (c r : ℕ) → c < t.tile.width / 16 * plane_side a → r < p * plane_side a → sample_of (t.tile.width / 16) a c r E.mem ≡ sample_of (t.tile.width / 16) a c r F.mem
  pub modes : (i : ℕ) → i < p * (t.tile.width / 16) * mode_width → mode_byte i E.mem ≡ mode_byte i F.mem
  pub strengths : (i : ℕ) → i < p * (t.tile.width / 16) * strength_width → strength_byte i E.mem ≡ strength_byte i F.mem
  -- a stop in those rows comes in both, at one macroblock with one number
  pub stops : E.finished < p * (t.tile.width / 16) → (F.number ≡ E.number) × (F.finished ≡ E.finished)
  pub stops_too : F.finished < p * (t.tile.width / 16) → (E.number ≡ F.number) × (E.finished ≡ F.finished)
  -- each macroblock finished in both has the same modes
  pub kinds : (k i : ℕ) → k < E.finished → k < F.finished → i < mode_width → mode_byte (k * mode_width + i) E.mem ≡ mode_byte (k * mode_width + i) F.mem
  -- if no row p exists, or nothing differs, or partition p is past the count, numbers, counts and all memory agree
  pub no_row : t.tile.height / 16 ≤ p → E ≡ F
  pub no_difference : SameTokens t u p → E ≡ F
  pub ignored : t.tile.count ≤ p → E ≡ F
