-- What single functions of the code take and give, where the definitions of painting have no name for it.
use Rattle.std.specs.Prelude.{◌+◌, ◌*◌, ◌/◌, ◌%◌, ◌≤◌, ◌<◌, ◌≡◌, ◌&&◌, ◌+ℤ◌}
use Rattle.numbers.specs.Words.{ℕ, zero, suc, Bool, true, false, leb, List, length, get_or, replicate, build, placed, ℤ, pos, negsuc, shr_z, In, Each, clip_z}
use Rattle.transform.specs.Transform.{grid_row}
use Rattle.transform.specs.Lanes.{known_length_of, short_residual, row_place}
use Rattle.planes.specs.Paint.{sample_at, block_residual, cell_column, cell_row}

-- ---- a square
-- m rows of n samples at column x, row y: f j k is sample k of row j
unfoldable pub rows_placed : List ℕ → (w x y n : ℕ) (f : ℕ → ℕ → ℕ) (m : ℕ) → List ℕ
rows_placed p w x y n f zero = p
rows_placed p w x y n f (suc j) = placed (rows_placed p w x y n f j) ((y + j) * w + x) (f j) n

-- ---- a sub-block by the place of its first sample, in rows of w
-- b copied there
unfoldable pub block_copied : List ℕ → (w at : ℕ) (b : List ℕ) → List ℕ
block_copied p w at b = row (row (row (row p at 0) (at + w) 4) (at + 2 * w) 8) (at + 3 * w) 12
  where
    row : List ℕ → (at from : ℕ) → List ℕ
    row q at from = placed q at (λ k. get_or b (from + k) 0) 4

-- r added to four samples
abbrev pub sum_at : List ℕ → (at : ℕ) (r : List ℤ) (k : ℕ) → ℕ
sum_at p at r k = clip_z (pos (get_or p (at + k) 0) +ℤ get_or r k (pos 0))

unfoldable pub row_sums : List ℕ → (at : ℕ) (r : List ℤ) → List ℕ
row_sums p at r = build 4 (sum_at p at r)

-- the same in their place, and four rows added to four rows
unfoldable pub row_added : List ℕ → (at : ℕ) (r : List ℤ) → List ℕ
row_added p at r = placed p at (sum_at p at r) 4

abbrev pub block_added : List ℕ → (w at : ℕ) (a b c d : List ℤ) → List ℕ
block_added p w at a b c d = row_added (row_added (row_added (row_added p at a) (at + w) b) (at + 2 * w) c) (at + 3 * w) d

-- the residual of block i, out of those of sixteen; and that of a block with nothing but its first coefficient
abbrev pub lane_added : List ℕ → (w at : ℕ) (r : List ℤ) (i : ℕ) → List ℕ
lane_added p w at r i = block_added p w at (grid_row r (4 * i)) (grid_row r (64 + 4 * i)) (grid_row r (128 + 4 * i)) (grid_row r (192 + 4 * i))

abbrev pub mean_of : (dc : ℤ) → ℤ
mean_of dc = shr_z (dc +ℤ pos 4) 8

abbrev pub mean_added : List ℕ → (w at : ℕ) (dc : ℤ) → List ℕ
mean_added p w at dc = let v = replicate 4 (mean_of dc) in block_added p w at v v v v

-- one that leaves room for a sample in 16 bits
abbrev pub Residual : ℤ → Type 0
Residual r = In (negsuc 32512) (pos 32512) r

-- ---- what is known of coefficients by lanes
abbrev pub Fits16 : ℤ → Type 0
Fits16 z = In (negsuc 32767) (pos 32767) z

-- number k of block i of n
abbrev pub lane_at : (n : ℕ) (c : List ℤ) (i k : ℕ) → ℤ
lane_at n c i k = get_or c (n * k + i) (pos 0)

-- the first i of eight numbers from the place `from` on, each joined with one of those before
pub record Joined (c : List ℤ) (from : ℕ) (before some : List ℤ) (i : ℕ) : Type 0 where
  pub long : length some ≡ 8
  pub none : (j : ℕ) → j < i → get_or some j (pos 0) ≡ pos 0 → (get_or before j (pos 0) ≡ pos 0) × (get_or c (from + j) (pos 0) ≡ pos 0)
  pub fit : (j : ℕ) → j < i → Fits16 (get_or c (from + j) (pos 0))
  pub yet : (j : ℕ) → i ≤ j → get_or some j (pos 0) ≡ get_or before j (pos 0)

-- the first k numbers, but the very first, of eight blocks from `first` on
pub record Looked (c : List ℤ) (n first : ℕ) (some : List ℤ) (k : ℕ) : Type 0 where
  pub long : length some ≡ 8
  pub none : (i : ℕ) → i < 8 → (j : ℕ) → 0 < j → j < k → get_or some i (pos 0) ≡ pos 0 → lane_at n c (first + i) j ≡ pos 0
  pub fit : (i : ℕ) → i < 8 → (j : ℕ) → 0 < j → j < k → Fits16 (lane_at n c (first + i) j)

-- the flags of the first i of eight blocks from `first` on
pub record Marked (before : List Bool) (first : ℕ) (some : List ℤ) (coded : List Bool) (i : ℕ) : Type 0 where
  pub long : length coded ≡ 16
  pub plain : (j : ℕ) → j < i → get_or coded (first + j) false ≡ false → get_or some j (pos 0) ≡ pos 0
  pub kept : (j : ℕ) → j < first → get_or coded j false ≡ get_or before j false

-- and of the first m of n blocks: where a flag does not stand, the numbers but the first are 0
pub record Coded (c : List ℤ) (n : ℕ) (coded : List Bool) (m : ℕ) : Type 0 where
  pub long : length coded ≡ 16
  pub plain : (i : ℕ) → i < m → get_or coded i false ≡ false → (k : ℕ) → 0 < k → k < 16 → lane_at n c i k ≡ pos 0
  pub fit : (i : ℕ) → i < m → (k : ℕ) → 0 < k → k < 16 → Fits16 (lane_at n c i k)

-- no flag stands
abbrev pub NoneBelow : List Bool → (n : ℕ) → Type 0
NoneBelow coded n = (i : ℕ) → i < n → get_or coded i false ≡ false

-- the first coefficients of n blocks fit 16 bits
abbrev pub FirstFit : (c : List ℤ) (from n : ℕ) → Type 0
FirstFit c from n = (i : ℕ) → i < n → Fits16 (get_or c (from + i) (pos 0))

-- 8 or 16 blocks, with those of a square of n by n from block `from` on among them
abbrev pub blocks_fine_of : (n len from : ℕ) → Bool
blocks_fine_of n len from = known_length_of len && leb (16 * from + n * n) len

-- ---- what is known of the residuals of n sub-blocks
-- the first n coefficients of sub-block i but the first are 0
abbrev pub PlainBlock : (n : ℕ) (c : List ℤ) (i : ℕ) → Type 0
PlainBlock n c i = (k : ℕ) → 0 < k → k < n → get_or c (16 * i + k) (pos 0) ≡ pos 0

-- the coefficients are s; by lanes they stand in c, from block `from` on, and the residuals of those that are coded in r
pub record Ready (c : List ℤ) (from : ℕ) (s : List ℤ) (coded : List Bool) (r : List ℤ) (n : ℕ) : Type 0 where
  pub few : from + n ≤ 16
  pub room : from + n ≤ length c
  pub long : 16 * n ≤ length s
  pub first : (i : ℕ) → i < n → get_or c (from + i) (pos 0) ≡ get_or s (16 * i) (pos 0)
  pub near : Each (negsuc 32512) (pos 32512) r
  pub plain : (i : ℕ) → i < n → get_or coded (from + i) false ≡ false → PlainBlock 16 s i
  pub lane : (i k : ℕ) → i < n → k < 16 → get_or coded (from + i) false ≡ true → get_or r (row_place (from + i) k) (pos 0) ≡ short_residual (get_or (block_residual s i) k (pos 0))

-- ---- what stands in the sub-block at column x, row y
unfoldable pub standing : List ℕ → (w x y : ℕ) → List ℕ
standing p w x y = build 16 (λ k. sample_at p w (x + k % 4) (y + k / 4))

abbrev pub stand_rule : (w x y m : ℕ) → List ℕ → ℕ → List ℕ
stand_rule w x y m q i = standing q w (x + cell_column m i) (y + cell_row m i)
