-- Demand 1, what a picture that stops leaves: macroblocks before the stop are finished, and from it on everything is blank.
-- `finished_or_grey`, in GreyLaws, proves it.
use Rattle.std.specs.Prelude.{◌+◌, ◌*◌, ◌/◌, ◌≤◌, ◌<◌, ◌≡◌}
use Rattle.numbers.specs.Words.{ℕ, get_or}
use Rattle.modes.specs.Modes.{kinds_of}
use Rattle.macroblock.specs.Macroblock.{Finished, finished}
use Rattle.lent.specs.Memory.{mode_width, strength_width, mode_record, strength_record, Memory}
use Rattle.choices.specs.Choices.{Call, values_of}
use Rattle.picture.specs.Picture.{State, pictured_of, begun_of, step_at, next_of, picture_of}
use Rattle.promises.specs.Reached.{Reached}
use Rattle.promises.specs.Places.{Plane, plane_side, sample_of, mode_byte, strength_byte, block_at}

-- column c of row r lies in a plane of the tile
pub record InPlane (t : Call) (a : Plane) (c r : ℕ) : Type 0 where
  pub across : c < t.tile.width / 16 * plane_side a
  pub down : r < t.tile.height / 16 * plane_side a

-- macroblock k of a tile is finished: what it found, what its step made of that, and that nothing later changed it. In the memory that
-- the call leaves its samples are those right after its step, and its two records hold what its step made
pub record Made (t : Call) (m : Memory) (k : ℕ) : Type 0 where
  pub found : State
  pub made : Finished
  pub reached : Reached (pictured_of t) (begun_of t m) k found
  pub step : step_at (pictured_of t) k found ≡ finished made
  pub samples : (a : Plane) (c r : ℕ) → InPlane t a c r → block_at (t.tile.width / 16) a c r ≡ k
      → sample_of (t.tile.width / 16) a c r (picture_of t m).mem ≡ sample_of (t.tile.width / 16) a c r (next_of (pictured_of t) k found made).mem
  pub kinds : (i : ℕ) → i < mode_width → mode_byte (k * mode_width + i) (picture_of t m).mem ≡ get_or (mode_record (kinds_of made.modes) made.modes.modes) i 0
  pub strength : (i : ℕ) → i < strength_width → strength_byte (k * strength_width + i) (picture_of t m).mem ≡ get_or (strength_record made.strength (kinds_of made.modes)) i 0

-- macroblocks that the call finished
abbrev pub done : Call → Memory → ℕ
done t m = values_of (picture_of t m).answer

-- THE PROMISE, after 0, 6 and 7: each macroblock before the stop is finished; every other sample is 128, and every other byte of modes
-- and strengths 0; and all memory, the columns too, is as after the last one that is finished
pub record FinishedOrGrey (t : Call) (m : Memory) : Type 0 where
  pub before : (k : ℕ) → k < done t m → Made t m k
  pub grey : (a : Plane) (c r : ℕ) → InPlane t a c r → done t m ≤ block_at (t.tile.width / 16) a c r → sample_of (t.tile.width / 16) a c r (picture_of t m).mem ≡ 128
  pub no_kinds : (i : ℕ) → done t m * mode_width ≤ i → mode_byte i (picture_of t m).mem ≡ 0
  pub no_strengths : (i : ℕ) → done t m * strength_width ≤ i → strength_byte i (picture_of t m).mem ≡ 0
  pub state : State
  pub reached : Reached (pictured_of t) (begun_of t m) (done t m) state
  pub memory : (picture_of t m).mem ≡ state.mem
