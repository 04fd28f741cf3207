-- Painting a macroblock's square into a plane: RFC 6386, section 12 (what a square or a sub-block is predicted from, and in which order)
-- and section 14.5, 4619-4629 (the residual is added). A plane is a list of samples, w to a row: the sample at column x of row y is its element
-- y * w + x.
use Rattle.std.specs.Prelude.{◌+◌, ◌*◌, ◌/◌, ◌%◌, ◌&&◌, ◌||◌, ◌∷◌, ◌+ℤ◌}
use Rattle.numbers.specs.Words.{Ok, Err, Checked, ℕ, zero, suc, Bool, true, false, cond, eqb, ltb, leb, List, [], length, get_or, take, drop, replicate, build, placed, copied, all_below, ℤ, pos, clip_z}
use Rattle.transform.specs.Transform.{samples_of, fits16}
use Rattle.transform.specs.Lanes.{by_blocks, known_length_of}
use Rattle.numbers.specs.declared.Refused.TheVariants as K
use Rattle.predict.specs.declared.Border.{Border}
use Rattle.predict.specs.Predict.{small_block_of, dc_of, large_of}

-- column x, row y
abbrev pub sample_at : List ℕ → (w x y : ℕ) → ℕ
sample_at p w x y = get_or p (y * w + x) 0

-- ---- what lies around: the plane with a row of 127 above it, the corner too, and a column of 129 left of it (section 12, 2789-2796)
-- the sample at column x of row y of that, so both are counted from 1 in the plane
unfoldable pub near_of : List ℕ → (w x y : ℕ) → ℕ
near_of p w x zero = 127
near_of p w zero (suc y) = 129
near_of p w (suc x) (suc y) = sample_at p w x y

-- four samples above column x of row y and the columns after it, and four left of it in its row and the rows below
unfoldable pub four_above_of : List ℕ → (w x y : ℕ) → List ℕ
four_above_of p w x y = near_of p w (x + 1) y ∷ near_of p w (x + 2) y ∷ near_of p w (x + 3) y ∷ near_of p w (x + 4) y ∷ []

unfoldable pub four_left_of : List ℕ → (w x y : ℕ) → List ℕ
four_left_of p w x y = near_of p w x (y + 1) ∷ near_of p w x (y + 2) ∷ near_of p w x (y + 3) ∷ near_of p w x (y + 4) ∷ []

-- ---- section 12.2, 2829-2834: around the square of n by n at column x, row y. The edge's lists have sixteen places, zero past the first n
unfoldable pub first_places : (n : ℕ) → (ℕ → ℕ) → List ℕ
first_places n f = placed (replicate 16 0) 0 f n

-- the n samples above it
abbrev pub first_above_of : List ℕ → (w x y n : ℕ) → List ℕ
first_above_of p w x y n = first_places n (λ k. near_of p w (x + 1 + k) y)

-- the n samples left of it
abbrev pub first_left_of : List ℕ → (w x y n : ℕ) → List ℕ
first_left_of p w x y n = first_places n (λ k. near_of p w x (y + 1 + k))

-- all around the square: above, left, the corner, and which of them lie inside the plane
unfoldable pub edge_of : List ℕ → (w x y n : ℕ) → Border
edge_of p w x y n = record {
  above = first_above_of p w x y n;
  left = first_left_of p w x y n;
  corner = near_of p w x y;
  above_inside = ltb 0 y;
  left_inside = ltb 0 x;
}

-- ---- section 12.3, 3035-3068: around the sub-block at column x, row y
-- above and right of the macroblock at column x, row y: 127 on row 0, as all above; at the right edge of the plane the last sample above,
-- four times (3064-3068)
unfoldable pub above_right_of : List ℕ → (w x y : ℕ) → List ℕ
above_right_of p w x y = cond (eqb (x + 16) w) (replicate 4 (near_of p w w y)) (four_above_of p w (x + 16) y)

-- above and right of a sub-block: in the macroblock's last column, of every row, those of the macroblock (3057-3064)
unfoldable pub block_above_right_of : List ℕ → (w x y : ℕ) (last : Bool) (right : List ℕ) → List ℕ
block_above_right_of p w x y last right = cond last right (four_above_of p w (x + 4) y)

-- the thirteen: left from the bottom, the corner, above, above and right
unfoldable pub around_of : List ℕ → (w x y : ℕ) (aside : List ℕ) → List ℕ
around_of p w x y r =
    near_of p w x (y + 4) ∷ near_of p w x (y + 3) ∷ near_of p w x (y + 2) ∷ near_of p w x (y + 1)
    ∷ near_of p w x y
    ∷ near_of p w (x + 1) y ∷ near_of p w (x + 2) y ∷ near_of p w (x + 3) y ∷ near_of p w (x + 4) y
    ∷ get_or r 0 0 ∷ get_or r 1 0 ∷ get_or r 2 0 ∷ get_or r 3 0 ∷ []

-- ---- a sub-block
-- b, four rows of four, at column x, row y: the first m rows of it
unfoldable pub rows_painted : List ℕ → (w x y : ℕ) → List ℕ → (m : ℕ) → List ℕ
rows_painted p w x y b zero = p
rows_painted p w x y b (suc j) = copied (rows_painted p w x y b j) ((y + j) * w + x) b (4 * j) 4

-- all four rows
abbrev pub painted : List ℕ → (w x y : ℕ) → List ℕ → List ℕ
painted p w x y b = rows_painted p w x y b 4

-- the coefficients of sub-block i, and its residual (section 14.4, 4543-4610)
unfoldable pub block_coefficients : List ℤ → ℕ → List ℤ
block_coefficients c i = take 16 (drop (16 * i) c)

-- its inverse transform
unfoldable pub block_residual : List ℤ → ℕ → List ℤ
block_residual c i = samples_of false (block_coefficients c i)

-- section 14.5, 4623-4629: predicted and residual, summed
unfoldable pub summed_of : List ℕ → List ℤ → List ℕ
summed_of pred res = build 16 (λ k. clip_z (pos (get_or pred k 0) +ℤ get_or res k (pos 0)))

-- sub-block i painted: predicted, its residual added
unfoldable pub block_painted : List ℕ → (w x y : ℕ) (pred : List ℕ) → List ℤ → ℕ → List ℕ
block_painted p w x y pred c i = painted p w x y (summed_of pred (block_residual c i))

-- ---- a square of m by m sub-blocks at column x, row y
-- where sub-block i lies in it: they go in raster order
abbrev pub cell_column : (m i : ℕ) → ℕ
cell_column m i = 4 * (i % m)

-- its row
abbrev pub cell_row : (m i : ℕ) → ℕ
cell_row m i = 4 * (i / m)

-- the first i painted, each predicted by a rule from its number and the plane as those before it left it
unfoldable pub blocks_painted : (rule : List ℕ → ℕ → List ℕ) → List ℕ → (w x y m : ℕ) → List ℤ → ℕ → List ℕ
blocks_painted rule p w x y m c zero = p
blocks_painted rule p w x y m c (suc i) =
    let q = blocks_painted rule p w x y m c i in
    block_painted q w (x + cell_column m i) (y + cell_row m i) (rule q i) c i

-- in a large mode all are predicted from the edge of the square, and in small modes each from the samples around it; the edge, and
-- what lies above and right of the macroblock, are read before any is painted
abbrev pub large_rule : (m mode dc : ℕ) → Border → List ℕ → ℕ → List ℕ
large_rule m mode dc e q i = large_of mode dc e (cell_row m i) (cell_column m i)

-- a small mode's prediction from the samples around the sub-block
unfoldable pub small_at : List ℕ → (w x y : ℕ) (last : Bool) (right : List ℕ) (mode : ℕ) → List ℕ
small_at p w x y last right mode = small_block_of mode (around_of p w x y (block_above_right_of p w x y last right))

-- of sub-block i of the macroblock
abbrev pub small_rule : (w x y : ℕ) (right modes : List ℕ) → List ℕ → ℕ → List ℕ
small_rule w x y right modes q i = small_at q w (x + cell_column 4 i) (y + cell_row 4 i) (eqb (i % 4) 3) right (get_or modes i 0)

-- the rule of a square, by whether its modes are small
unfoldable pub prediction_rule : List ℕ → (w x y n : ℕ) (small : Bool) (mode : ℕ) (modes : List ℕ) → List ℕ → ℕ → List ℕ
prediction_rule p w x y n true mode modes = small_rule w x y (above_right_of p w x y) modes
prediction_rule p w x y n false mode modes = let e = edge_of p w x y n in large_rule (n / 4) mode (dc_of n e) e

-- the square of n by n
unfoldable pub square_painted : List ℕ → (w x y n : ℕ) (small : Bool) (mode : ℕ) (modes : List ℕ) → List ℤ → List ℕ
square_painted p w x y n small mode modes c = let m = n / 4 in blocks_painted (prediction_rule p w x y n small mode modes) p w x y m c (m * m)

-- ---- the public call: the square of macroblock (column, row)
-- the coefficients of a square of n by n: of 8 or 16 blocks by lanes, those from block `from` on; of any other number of blocks, none
unfoldable pub square_blocks : (n from : ℕ) → List ℤ → List ℤ
square_blocks n from l = cond (known_length_of (length l)) (take (n * n) (drop (16 * from) (by_blocks (length l / 16) l))) []

-- every mode is below a limit
abbrev pub modes_below : ℕ → List ℕ → Bool
modes_below limit modes = all_below 16 (λ k. ltb (get_or modes k 0) limit)

-- every coefficient fits 16 bits
abbrev pub each_fits : List ℤ → Bool
each_fits c = all_below (length c) (λ k. fits16 (get_or c k (pos 0)))

-- the size, and the modes that count
unfoldable pub paint_modes_fine : (n : ℕ) (small : Bool) (mode : ℕ) (modes : List ℕ) → Bool
paint_modes_fine n small mode modes = cond small (eqb n 16 && modes_below 10 modes) ((eqb n 8 || eqb n 16) && ltb mode 4)

-- whole squares of n along a side, and the kth among them
abbrev pub side_fine_of : (side k n : ℕ) → Bool
side_fine_of side k n = eqb (side % n) 0 && ltb k (side / n)

-- whole squares in the plane's rows and columns, and the square among them
unfoldable pub square_fine_of : (len w column row n : ℕ) → Bool
square_fine_of len w column row n =
    let rows = len / w in
    ltb 0 w && (leb w 16384 && leb rows 16384 && eqb (len % w) 0 && side_fine_of w column n && side_fine_of rows row n)

-- as many coefficients as samples, each of 16 bits
unfoldable pub coefficients_fine : (n : ℕ) → List ℤ → Bool
coefficients_fine n c = eqb (length c) (n * n) && each_fits c

-- all of that
unfoldable pub paint_fine : (len w column row n : ℕ) (small : Bool) (mode : ℕ) (modes : List ℕ) → List ℤ → Bool
paint_fine len w column row n small mode modes c = paint_modes_fine n small mode modes && (square_fine_of len w column row n && coefficients_fine n c)

-- what it answers, and the plane it leaves
pub record PaintedPlane : Type 0 where
  pub answer : Checked
  pub plane : List ℕ

-- `paint`: refused, and nothing changed, where an argument is out of range
unfoldable pub paint_of : List ℕ → (w column row n : ℕ) (small : Bool) (mode : ℕ) (modes : List ℕ) → List ℤ → PaintedPlane
paint_of p w column row n small mode modes c =
    cond (paint_fine (length p) w column row n small mode modes c)
    (record { answer = Ok tt; plane = square_painted p w (column * n) (row * n) n small mode modes c })
    (record { answer = Err K.OutOfRange; plane = p })
