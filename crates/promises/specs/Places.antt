-- Where a macroblock's samples and records stand in the lent memory.
use Rattle.std.specs.Prelude.{◌+◌, ◌*◌, ◌/◌}
use Rattle.numbers.specs.Words.{ℕ, List, get_or}
use Rattle.planes.specs.Paint.{sample_at}
use Rattle.lent.specs.Memory.{Memory}

-- the three planes: Y, U and V
pub data Plane : Type 0 where
  luma : Plane
  blue : Plane
  red : Plane

-- that plane of the lent memory
abbrev pub plane_of : Plane → Memory → List ℕ
plane_of luma m = m.y
plane_of blue m = m.u
plane_of red m = m.v

-- a macroblock is 16 by 16 samples of luma, 8 by 8 of U and of V
abbrev pub plane_side : Plane → ℕ
plane_side luma = 16
plane_side blue = 8
plane_side red = 8

-- the sample at column c of row r of a plane, `wide` macroblocks to a row
abbrev pub sample_of : (wide : ℕ) → Plane → (c r : ℕ) → Memory → ℕ
sample_of wide a c r m = sample_at (plane_of a m) (wide * plane_side a) c r

-- byte i of the mode records, twenty a macroblock; and of the strength records, six a macroblock
abbrev pub mode_byte : ℕ → Memory → ℕ
mode_byte i m = get_or m.modes i 0

-- byte i of the strength records
abbrev pub strength_byte : ℕ → Memory → ℕ
strength_byte i m = get_or m.strengths i 0

-- the macroblock, in raster order, that column c of row r of a plane lies in
abbrev pub block_at : (wide : ℕ) → Plane → (c r : ℕ) → ℕ
block_at wide a c r = r / plane_side a * wide + c / plane_side a
