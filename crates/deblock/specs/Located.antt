-- Where edges lie in a plane of `len` samples, w to a row.
use Rattle.std.specs.Prelude.{◌+◌, ◌-◌, ◌*◌, ◌/◌, ◌%◌, ◌≤◌, ◌<◌, ◌≡◌}
use Rattle.numbers.specs.Words.{ℕ, zero, suc, add-mul, div-lt_iff_lt-mul, mod-lt, mul_comm, mul-le-mul_right, one-mul, arith, refl, sym, ◌∙◌, List, length}
use Rattle.lent.specs.Memory.{strength_width, strength_at_of}
use Rattle.predict.specs.Predict.{Size}
use Rattle.planes.specs.Places.{Square, by_size}
pub use Rattle.deblock.specs.Moves.{PlaneGrid}

-- the edge left of column x in n rows from y on has four samples on either side
pub record Upright (len w x y n : ℕ) : Type 0 where
  pub left : 4 ≤ x
  pub right : x + 4 ≤ w
  pub rows : (y + n) * w ≤ len
  pub wide : w ≤ 16384
  pub high : y + n ≤ 16384

-- the edge above row y in n columns from x on has four samples on either side
pub record Level (len w x y n : ℕ) : Type 0 where
  pub above : 4 ≤ y
  pub below : (y + 4) * w ≤ len
  pub columns : x + n ≤ w
  pub wide : w ≤ 16384
  pub high : y + 4 ≤ 16384
  pub some : 0 < w

-- a plane of lq samples beside one of lp: of the same length where squares are 8 by 8, empty where they are 16 by 16
pub record Beside (n lp lq : ℕ) : Type 0 where
  pub size : Size n
  pub two : n ≡ 8 → lq ≡ lp
  pub one : n ≡ 16 → lq ≡ 0

-- a plane of squares with strengths for each
pub record WholePlane (len n wide high : ℕ) (strengths : List ℕ) : Type 0 where
  pub grid : PlaneGrid len n wide high
  pub long : length strengths ≡ strength_width * (wide * high)
  pub limits : (k : ℕ) → k < wide * high → (strength_at_of strengths k).limit ≤ 189

pub size_eight : {n : ℕ} → Size n → (8 ≤ n) × (n ≤ 16)
size_eight z = by_size (λ (n : ℕ). (8 ≤ n) × (n ≤ 16)) (omega arith, omega arith) (omega arith, omega arith) z

-- ---- the eight samples of each position lie in the plane
pub upright_in : {len w x y n : ℕ} → Upright len w x y n → (i : ℕ) → i < n → y * w + x - 4 + i * w + 7 < len
upright_in {len} {w} {x} {y} {n} s i h =
    omega (arith, s.rows, mul-le-mul_right {m = y + i + 1} {n = y + n} w (omega arith), add-mul (y + i) 1 w, add-mul y i w, one-mul w)

pub level_at_lem : {len w x y n : ℕ} → Level len w x y n → (y - 4) * w + 8 * w ≤ len
level_at_lem {len} {w} {x} {y} {n} s = omega (arith, s.below, mul-le-mul_right {m = y - 4 + 8} {n = y + 4} w (omega arith), add-mul (y - 4) 8 w)

pub level_in : {len w x y n : ℕ} → Level len w x y n → (i : ℕ) → i < n → (y - 4) * w + x + i * 1 + 7 * w < len
level_in {len} {w} {x} {y} {n} s i h =
    omega (arith, level_at_lem s)

-- ---- the block of an edge: m + 1 rows of eight, or eight rows of m
pub upright_room : {len w x y n : ℕ} → Upright len w x y n → (m : ℕ) → n ≡ suc m → (y * w + x - 4 + m * w + 8 ≤ len) × (8 ≤ w)
upright_room {len} {w} {x} {y} {n} s m e = (omega (arith, upright_in s m (omega arith)), omega (arith, s.left, s.right))

pub level_room : {len w x y n : ℕ} → Level len w x y n → (m : ℕ) → n ≡ m → ((y - 4) * w + x + 7 * w + m ≤ len) × (m ≤ w)
level_room {len} {w} {x} {y} {n} s m e = (omega (arith, level_at_lem s, s.columns), omega (arith, s.columns))

pub same_room : {a l k : ℕ} → k ≡ l → a ≤ l → a ≤ k
same_room e h = omega arith

-- ---- a plane beside another
pub beside_eight : {n lp lq : ℕ} → Beside n lp lq → (n ≡ 16 → ⊥) → n ≡ 8
beside_eight b = by_size (λ (n : ℕ). (n ≡ 16 → ⊥) → n ≡ 8) (λ h. refl) (λ h. absurd (h refl)) b.size

pub beside_same : {n lp lq l k : ℕ} → l ≡ lp → k ≡ lq → Beside n lp lq → Beside n l k
beside_same e f b = record { size = b.size; two = λ h. f ∙ b.two h ∙ sym e; one = λ h. f ∙ b.one h }

-- ---- the edges of a square
-- after the jth inner edge there are four samples more
pub inner_few : {n : ℕ} → Size n → (j : ℕ) → j < n / 4 - 1 → 4 * j + 8 ≤ n
inner_few z j = by_size (λ (n : ℕ). j < n / 4 - 1 → 4 * j + 8 ≤ n) (λ h. omega arith) (λ h. omega arith) z

module _ {len w x y n : ℕ} (s : Square len w x y n) (z : Size n) where
  pub square_left : 4 ≤ x → Upright len w x y n
  square_left h = record { left = h; right = omega (arith, size_eight z, s.columns); rows = s.rows; wide = s.wide; high = s.high }

  pub square_top : 4 ≤ y → Level len w x y n
  square_top h = record { above = h; below = omega (arith, s.rows, mul-le-mul_right {m = y + 4} {n = y + n} w (omega (arith, size_eight z))); columns = s.columns; wide = s.wide; high = omega (arith, size_eight z, s.high); some = omega (arith, size_eight z, s.columns) }

  pub square_upright : (j : ℕ) → j < n / 4 - 1 → Upright len w (x + 4 * j + 4) y n
  square_upright j h = record { left = omega arith; right = omega (arith, inner_few z j h, s.columns); rows = s.rows; wide = s.wide; high = s.high }

  pub square_level : (j : ℕ) → j < n / 4 - 1 → Level len w x (y + 4 * j + 4) n
  square_level j h = record { above = omega arith; below = omega (arith, s.rows, mul-le-mul_right {m = y + 4 * j + 4 + 4} {n = y + n} w (omega (arith, inner_few z j h))); columns = s.columns; wide = s.wide; high = omega (arith, inner_few z j h, s.high); some = omega (arith, size_eight z, s.columns) }

-- macroblock k's own
pub past_first : {n : ℕ} (c : ℕ) → Size n → (c ≡ 0 → ⊥) → 4 ≤ c * n
past_first c z h = by_size (λ (n : ℕ). 4 ≤ c * n) (omega arith) (omega arith) z

-- ---- macroblock k of a plane
pub wide_some : (wide high k : ℕ) → k < wide * high → 0 < wide
wide_some zero high k h = absurd (omega arith)
wide_some (suc wide) high k h = omega arith

module _ (wide n k : ℕ) (some : 0 < wide) where
  pub column_in : k % wide * n + n ≤ wide * n
  column_in = omega (arith, mul-le-mul_right {m = k % wide + 1} {n = wide} n (omega (arith, mod-lt k {m = wide} some)), add-mul (k % wide) 1 n, one-mul n)

  pub row_in : (high : ℕ) → k < wide * high → k / wide * n + n ≤ high * n
  row_in high h =
      let below : k / wide < high = (div-lt_iff_lt-mul some).1 (omega (arith, mul_comm wide high)) in
      omega (arith, mul-le-mul_right {m = k / wide + 1} {n = high} n (omega (arith, below)), add-mul (k / wide) 1 n, one-mul n)

module _ {len n wide high : ℕ} (z : PlaneGrid len n wide high) (k : ℕ) (h : k < wide * high) where
  some : 0 < wide
  some = wide_some wide high k h

  pub grid_square : Square len (wide * n) (k % wide * n) (k / wide * n) n
  grid_square = record { columns = column_in wide n k some; rows = omega (arith, z.area, mul-le-mul_right {m = k / wide * n + n} {n = high * n} (wide * n) (row_in wide n k some high h)); wide = z.across; high = omega (arith, row_in wide n k some high h, z.down) }
