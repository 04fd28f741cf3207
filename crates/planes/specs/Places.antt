-- Where squares and sub-blocks lie in a plane of `len` samples, w to a row.
use Rattle.std.specs.Prelude.{◌+◌, ◌-◌, ◌*◌, ◌/◌, ◌%◌, ◌^◌, ◌≤◌, ◌<◌, ◌≡◌, ◌⊎◌}
use Rattle.numbers.specs.Words.{ℕ, add-mul, mul-le-mul_right, one-mul, dec_lt, ℕ_discrete, arith, bit_and, and_mask, refl, sym, ◌∙◌, ap, subst, false, cond, inl, inr, eqb, lt_or, eqb-false, Off}
use Rattle.planes.specs.declared.edges.Spot.{Spot}
use Rattle.predict.specs.Predict.{Size}
use Rattle.planes.specs.Paint.{cell_column, cell_row}

-- ---- in the plane
-- the n by n square at column x, row y
pub record Square (len w x y n : ℕ) : Type 0 where
  pub columns : x + n ≤ w
  pub rows : (y + n) * w ≤ len
  pub wide : w ≤ 16384
  pub high : y + n ≤ 16384

-- a column and a row, counted from 1, at most the plane's last
pub record Reach (len w x y : ℕ) : Type 0 where
  pub column : x ≤ w
  pub rows : y * w ≤ len
  pub wide : w ≤ 16384
  pub high : y ≤ 16384

-- a sub-block, and what is above it, reached from its first sample
pub record Lies (len w : ℕ) (s : Spot) : Type 0 where
  pub square : Square len w s.x s.y 4
  pub at : s.at ≡ s.y * w + s.x

pub record Over (len w : ℕ) (s : Spot) : Type 0 where
  pub reach : Reach len w (s.x + 4) s.y
  pub at : s.at ≡ s.y * w + s.x

-- four rows of four samples from the place `at` on
pub record Block (len w at : ℕ) : Type 0 where
  pub inside : at + 3 * w + 4 ≤ len
  pub wide : w ≤ 16384

-- column c of row r lies outside the square
abbrev pub Outside : (x y n c r : ℕ) → Type 0
Outside x y n c r = Off x n c ⊎ Off y n r

-- a row's end is no further than the rows below it begin
pub next_row : (q r w : ℕ) → q < r → q * w + w ≤ r * w
next_row q r w h = omega (arith, mul-le-mul_right {m = q + 1} {n = r} w (omega arith), add-mul q 1 w, one-mul w)

-- n samples of a row above row h lie in a plane that has h rows
pub run_inside : {y h w len : ℕ} (x n : ℕ) → y < h → x + n ≤ w → h * w ≤ len → y * w + x + n ≤ len
run_inside {y} {h} {w} {len} x n p q r = omega (arith, next_row y h w p)

-- a square reaches the row above it and the column left of it
module _ {len w x y n : ℕ} (s : Square len w x y n) where
  pub reach_left : {z : ℕ} → z ≤ y + n → Reach len w x z
  reach_left {z} h = record { column = omega arith; rows = omega (arith, s.rows, mul-le-mul_right {m = z} {n = y + n} w h); wide = s.wide; high = omega arith }

  pub reach_above : {z : ℕ} → z ≤ w → Reach len w z y
  reach_above h = let r = reach_left {z = y} (omega arith) in record { column = h; rows = r.rows; wide = r.wide; high = r.high }

  -- a square in it
  pub sub_square : (a b k : ℕ) → a + k ≤ n → b + k ≤ n → Square len w (x + a) (y + b) k
  sub_square a b k f g =
      record { columns = omega arith; rows = omega (arith, s.rows, mul-le-mul_right {m = y + b + k} {n = y + n} w (omega arith)); wide = s.wide; high = omega arith }

-- what is reached lies in the plane
pub reach_at : {len w x y : ℕ} → Reach len w x y → 0 < x → 0 < y → (y - 1) * w + (x - 1) < len
reach_at {len} {w} {x} {y} r p q = omega (arith, run_inside {y = y - 1} {h = y} {w = w} {len = len} (x - 1) 1 (omega arith) (omega arith) r.rows)

pub reach_run : {len w y : ℕ} (x n : ℕ) → Reach len w (x + n) y → 0 < y → (y - 1) * w + x + n ≤ len
reach_run {len} {w} {y} x n r q = run_inside {y = y - 1} {h = y} x n (omega arith) r.column r.rows

-- from a sample to the one above it
pub up_row : (y w x : ℕ) → 0 < y → y * w + x ≡ w + ((y - 1) * w + x)
up_row y w x h = let e : y ≡ y - 1 + 1 = omega arith in ap (λ (k : ℕ). k * w + x) e ∙ omega (arith, add-mul (y - 1) 1 w, one-mul w)

-- from a sub-block to what is above it, and to its rows
pub lies_over : {len w : ℕ} {s : Spot} → Lies len w s → Over len w s
lies_over l = record { reach = reach_above l.square l.square.columns; at = l.at }

pub lies_block : {len w : ℕ} {s : Spot} → Lies len w s → Block len w s.at
lies_block {len} {w} {s} l = record { inside = omega (arith, l.at, l.square.columns, l.square.rows, add-mul s.y 4 w); wide = l.square.wide }

-- where those samples lie
pub above_at : {len w : ℕ} (s : Spot) → Over len w s → 0 < s.y → (w ≤ s.at) × (s.at - w ≡ (s.y - 1) * w + s.x) × (s.at - w + 4 ≤ len)
above_at {len} {w} s o h =
    let e = o.at ∙ up_row s.y w s.x h in
    let i : s.at - w ≡ (s.y - 1) * w + s.x = omega arith in
    (omega arith, i, rw i (reach_run s.x 4 o.reach h))

pub left_at : {len w : ℕ} (s : Spot) → Lies len w s → 0 < s.x → (j : ℕ) → s.at - 1 + j * w ≡ (s.y + j) * w + (s.x - 1)
left_at {len} {w} s l h j = omega (arith, l.at, add-mul s.y j w)

-- a place of another row, or of the same row and another column, is off n samples of row q from column x on
pub apart : (q r w x n c : ℕ) → c < w → x + n ≤ w → Off x n c ⊎ Off q 1 r → Off (q * w + x) n (r * w + c)
apart q r w x n c h l (inr (inl a)) = inl (omega (arith, next_row r q w a))
apart q r w x n c h l (inr (inr a)) = inr (omega (arith, next_row q r w (omega arith)))
apart q r w x n c h l (inl o) = elim (ℕ_discrete q r) [ yes e ↦ rw e (same o) | no e ↦ other e ]
  where
    same : Off x n c → Off (r * w + x) n (r * w + c)
    same (inl a) = inl (omega arith)
    same (inr a) = inr (omega arith)

    other : (q ≡ r → ⊥) → Off (q * w + x) n (r * w + c)
    other e = elim (dec_lt q r) [ yes f ↦ inr (omega (arith, next_row q r w f)) | no f ↦ inl (omega (arith, next_row r q w (omega arith))) ]

-- what lies outside a square lies outside each square in it
pub outside_sub : {x y n c r : ℕ} (a b k : ℕ) → a + k ≤ n → b + k ≤ n → Outside x y n c r → Outside (x + a) (y + b) k c r
outside_sub a b k f g (inl (inl h)) = inl (inl (omega arith))
outside_sub a b k f g (inl (inr h)) = inl (inr (omega arith))
outside_sub a b k f g (inr (inl h)) = inr (inl (omega arith))
outside_sub a b k f g (inr (inr h)) = inr (inr (omega arith))

-- ---- sub-blocks
-- how many a side has, and sub-block i among them
abbrev pub BlockSides : ℕ → Type 0
BlockSides m = (m ≡ 2) ⊎ (m ≡ 4)

pub record Cell (m i column row : ℕ) : Type 0 where
  pub across : column ≡ cell_column m i
  pub down : row ≡ cell_row m i
  pub inside : column + 4 ≤ 4 * m
  pub above : row + 4 ≤ 4 * m

-- sub-block i of a square of m by m at column x, row y
pub record Sub (w x y m i : ℕ) (s : Spot) : Type 0 where
  pub across : s.x ≡ x + cell_column m i
  pub down : s.y ≡ y + cell_row m i
  pub at : s.at ≡ s.y * w + s.x

-- what holds of both holds of each
pub by_sides : (P : ℕ → Type 0) → P 2 → P 4 → {m : ℕ} → BlockSides m → P m
by_sides P a b (inl e) = subst P (sym e) a
by_sides P a b (inr e) = subst P (sym e) b

pub sides_few : {m : ℕ} → BlockSides m → (0 < m) × (m ≤ 4)
sides_few s = by_sides (λ (m : ℕ). (0 < m) × (m ≤ 4)) (omega arith, omega arith) (omega arith, omega arith) s

pub sides_square : {m : ℕ} → BlockSides m → m * m ≤ 16
sides_square s = by_sides (λ (m : ℕ). m * m ≤ 16) (omega arith) (omega arith) s

-- a side is a power of two
pub sides_bits : {m : ℕ} (i : ℕ) → BlockSides m → (bit_and i (m - 1) ≡ i % m) × (i / 2 ^ (m / 2) ≡ i / m)
sides_bits i s = by_sides (λ (m : ℕ). (bit_and i (m - 1) ≡ i % m) × (i / 2 ^ (m / 2) ≡ i / m)) (and_mask i 1, refl) (and_mask i 2, refl) s

pub cell : {m i : ℕ} → BlockSides m → i < m * m → Cell m i (cell_column m i) (cell_row m i)
cell {m} {i} s =
    by_sides (λ (m : ℕ). i < m * m → Cell m i (cell_column m i) (cell_row m i))
    (λ h. record { across = refl; down = refl; inside = omega arith; above = omega arith })
    (λ h. record { across = refl; down = refl; inside = omega arith; above = omega arith }) s

pub sub_lies : {len w x y m i : ℕ} {s : Spot} → BlockSides m → i < m * m → Square len w x y (4 * m) → Sub w x y m i s → Lies len w s
sub_lies {len} {w} {x} {y} {m} {i} b h t a =
    let c = cell b h in
    record { square = rw (a.across, a.down) (sub_square t (cell_column m i) (cell_row m i) 4 c.inside c.above); at = a.at }

-- a sub-block that is not in the last column has one right of it
pub not_last : (i : ℕ) → eqb (i % 4) 3 ≡ false → cell_column 4 i + 8 ≤ 16
not_last i e = let n = eqb-false (i % 4) 3 e in omega arith

-- column c of row r lies in the sub-block at column x of row y
pub record Within (x y c r : ℕ) : Type 0 where
  pub left : x ≤ c
  pub right : c < x + 4
  pub top : y ≤ r
  pub bottom : r < y + 4

-- a place in sub-block i lies outside the others
pub other : {m c r : ℕ} (x y i j : ℕ) → BlockSides m → (i ≡ j → ⊥) → Within (x + cell_column m i) (y + cell_row m i) c r → Outside (x + cell_column m j) (y + cell_row m j) 4 c r
other {m} {c} {r} x y i j s h k = go (by_sides Apart two four s)
  where
    Apart : ℕ → Type 0
    Apart m = (i % m < j % m) ⊎ ((j % m < i % m) ⊎ ((i / m < j / m) ⊎ (j / m < i / m)))

    two : Apart 2
    two = elim (lt_or (i % 2) (j % 2)) [
      | inl a ↦ inl a
      | inr a ↦ elim (lt_or (j % 2) (i % 2)) [ inl b ↦ inr (inl b) | inr b ↦ inr (inr (elim (lt_or (i / 2) (j / 2)) [ inl d ↦ inl d | inr d ↦ inr (omega arith) ])) ]
    ]

    four : Apart 4
    four = elim (lt_or (i % 4) (j % 4)) [
      | inl a ↦ inl a
      | inr a ↦ elim (lt_or (j % 4) (i % 4)) [ inl b ↦ inr (inl b) | inr b ↦ inr (inr (elim (lt_or (i / 4) (j / 4)) [ inl d ↦ inl d | inr d ↦ inr (omega arith) ])) ]
    ]

    go : Apart m → Outside (x + cell_column m j) (y + cell_row m j) 4 c r
    go (inl a) = inl (inl (omega (arith, k.right)))
    go (inr (inl a)) = inl (inr (omega (arith, k.left)))
    go (inr (inr (inl a))) = inr (inl (omega (arith, k.bottom)))
    go (inr (inr (inr a))) = inr (inr (omega (arith, k.top)))

-- a place lies in a sub-block of four by four or outside it, and in a square of them in one of them or outside all
pub within_or : (x y c r : ℕ) → Within x y c r ⊎ Outside x y 4 c r
within_or x y c r = elim (lt_or c x) [
  | inl a ↦ inr (inl (inl a))
  | inr a ↦ elim (lt_or c (x + 4)) [
    | inr b ↦ inr (inl (inr b))
    | inl b ↦ elim (lt_or r y) [
      | inl d ↦ inr (inr (inl d))
      | inr d ↦ elim (lt_or r (y + 4)) [ inr e ↦ inr (inr (inr e)) | inl e ↦ inl (record { left = a; right = b; top = d; bottom = e }) ]
    ]
  ]
]

pub record Covered (x y m c r : ℕ) : Type 0 where
  pub block : ℕ
  pub among : block < m * m
  pub within : Within (x + cell_column m block) (y + cell_row m block) c r

pub covered : {m : ℕ} (x y c r : ℕ) → BlockSides m → Covered x y m c r ⊎ Outside x y (4 * m) c r
covered x y c r s = by_sides (λ (m : ℕ). Covered x y m c r ⊎ Outside x y (4 * m) c r) (go 2 two) (go 4 four) s
  where
    Inside : ℕ → Type 0
    Inside m = x ≤ c → c < x + 4 * m → y ≤ r → r < y + 4 * m → Covered x y m c r

    go : (m : ℕ) → Inside m → Covered x y m c r ⊎ Outside x y (4 * m) c r
    go m f = elim (lt_or c x) [
      | inl a ↦ inr (inl (inl a))
      | inr a ↦ elim (lt_or c (x + 4 * m)) [
        | inr b ↦ inr (inl (inr b))
        | inl b ↦ elim (lt_or r y) [
          | inl d ↦ inr (inr (inl d))
          | inr d ↦ elim (lt_or r (y + 4 * m)) [ inr e ↦ inr (inr (inr e)) | inl e ↦ inl (f a b d e) ]
        ]
      ]
    ]

    two : Inside 2
    two a b d e = record {
      block = (r - y) / 4 * 2 + (c - x) / 4;
      among = omega arith;
      within = record { left = omega arith; right = omega arith; top = omega arith; bottom = omega arith };
    }

    four : Inside 4
    four a b d e = record {
      block = (r - y) / 4 * 4 + (c - x) / 4;
      among = omega arith;
      within = record { left = omega arith; right = omega arith; top = omega arith; bottom = omega arith };
    }

-- ---- sizes
pub by_size : (P : ℕ → Type 0) → P 8 → P 16 → {n : ℕ} → Size n → P n
by_size P a b (inl e) = subst P (sym e) a
by_size P a b (inr e) = subst P (sym e) b

pub size_some : {n : ℕ} → Size n → (0 < n) × (n ≤ 16)
size_some s = by_size (λ (n : ℕ). (0 < n) × (n ≤ 16)) (omega arith, omega arith) (omega arith, omega arith) s

pub size_luma : {n : ℕ} → Size n → cond (eqb n 16) 16 8 ≡ n
size_luma s = by_size (λ (n : ℕ). cond (eqb n 16) 16 8 ≡ n) refl refl s

-- a square of n by n as sub-blocks
pub quarter : {n : ℕ} → Size n → 4 * (n / 4) ≡ n
quarter s = by_size (λ (n : ℕ). 4 * (n / 4) ≡ n) refl refl s

pub size_sides : {n : ℕ} → Size n → BlockSides (n / 4)
size_sides s = by_size (λ (n : ℕ). BlockSides (n / 4)) (inl refl) (inr refl) s

pub size_blocks : {n : ℕ} → Size n → n * n ≡ 16 * (n / 4 * (n / 4))
size_blocks s = by_size (λ (n : ℕ). n * n ≡ 16 * (n / 4 * (n / 4))) refl refl s

-- the kth of whole squares of n in m
pub tiles : {n : ℕ} (m k : ℕ) → Size n → m % n ≡ 0 → k < m / n → (k * n + n ≤ m) × (k * n + n < m → k * n + n + n ≤ m)
tiles m k s =
    by_size (λ (n : ℕ). m % n ≡ 0 → k < m / n → (k * n + n ≤ m) × (k * n + n < m → k * n + n + n ≤ m))
    (λ e h. (omega arith, λ l. omega arith)) (λ e h. (omega arith, λ l. omega arith)) s
