-- Several blocks of sixteen numbers at once: how they stand side by side, and the residuals of 8 or 16 of them (RFC 6386, section 14.4, 4543-4610).
use Rattle.std.specs.Prelude.{◌+◌, ◌*◌, ◌/◌, ◌%◌, ◌||◌, ◌++◌}
use Rattle.numbers.specs.Words.{ℕ, Bool, true, false, cond, eqb, List, length, get_or, take, drop, build, stored_at, ℤ, pos, signed_to}
use Rattle.transform.specs.Transform.{at, samples_of}

-- ---- blocks one after the other, and by lanes
-- n blocks, one after the other, by lanes: number k of block i stands at n * k + i
unfoldable pub by_lanes : (n : ℕ) → List ℤ → List ℤ
by_lanes n c = build (16 * n) (λ p. get_or c (16 * (p % n) + p / n) (pos 0))

-- and back: n blocks by lanes, one after the other
unfoldable pub by_blocks : (n : ℕ) → List ℤ → List ℤ
by_blocks n l = build (16 * n) (λ p. get_or l (n * (p % 16) + p / 16) (pos 0))

-- a macroblock's 24 blocks: sixteen of luma by lanes, then eight of chroma
unfoldable pub macroblock_lanes : List ℤ → List ℤ
macroblock_lanes c = by_lanes 16 (take 256 c) ++ by_lanes 8 (drop 256 c)

-- and back: one block after the other again
unfoldable pub macroblock_blocks : List ℤ → List ℤ
macroblock_blocks l = by_blocks 16 (take 256 l) ++ by_blocks 8 (drop 256 l)

-- block i of blocks one after the other
unfoldable pub block_numbers : List ℤ → (i : ℕ) → List ℤ
block_numbers c i = build 16 (λ k. at c (16 * i + k))

-- ---- the residuals of blocks by lanes
-- as many coefficients as 8 or 16 blocks have
abbrev pub known_length_of : ℕ → Bool
known_length_of n = eqb n 128 || eqb n 256

-- a residual in 16 bits, with room left for a sample (32512 + 255 is 32767): what lies beyond is the nearest there, and clips to the same sample
abbrev pub short_residual : ℤ → ℤ
short_residual v = signed_to 32512 v

-- number k of the residual of block i of n
abbrev pub lane_residual : (n : ℕ) (c : List ℤ) (i k : ℕ) → ℤ
lane_residual n c i k = short_residual (at (samples_of false (block_numbers (by_blocks n c) i)) k)

-- where it goes: the rows of sixteen blocks side by side, the four numbers of a row together
abbrev pub row_place : (i k : ℕ) → ℕ
row_place i k = 64 * (k / 4) + 4 * i + k % 4

-- those of the first n blocks, one after the other, in their places; f i k is number k of block i
unfoldable pub turned_to : (f : ℕ → ℕ → ℤ) (t : List ℤ) (n : ℕ) → List ℤ
turned_to f t n = stored_at t (λ p. row_place (p / 16) (p % 16)) (λ p. f (p / 16) (p % 16)) (16 * n)

-- ---- the public call
-- whether there are as many coefficients as there must be, and the residuals
pub record Residuals : Type 0 where
  pub fit : Bool
  pub values : List ℤ

-- the residuals of 8 or 16 blocks in the places of the first of sixteen; of any other number of blocks, what was lent stays
unfoldable pub residuals_of : (c before : List ℤ) → Residuals
residuals_of c before =
    let n = length c / 16 in
    cond (known_length_of (length c)) (record { fit = true; values = turned_to (lane_residual n c) before n }) (record { fit = false; values = before })
