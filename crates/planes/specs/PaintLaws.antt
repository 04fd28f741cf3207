-- What callers and proofs cite of painting. Callers: `length_paint`, `paint_bytes`, `paint_off`, `paint-in`,
-- `paint-same` and `paint_good`, at the end.
use Rattle.std.specs.Prelude.{◌+◌, ◌-◌, ◌*◌, ◌/◌, ◌%◌, ◌≤◌, ◌<◌, ◌≡◌, ◌&&◌, ◌||◌, ◌⊎◌, ◌+ℤ◌}
use Rattle.numbers.specs.Words.{Ok, Err, ℕ, zero, suc, add-one, add_assoc, div-mul-le_self, mul-div_cancel, mul-le-mul, mul-le-mul_right, mul-mod_left, mul-one, zero-add, ℕ_discrete, arith, refl, sym, ◌∙◌, ap, subst, Bool, true, false, inl, inr, eqb, ltb, leb, lt_or, eq_or, both_left, both_right, both_true, cond_at, eq-eqb, eqb-true, le-leb, leb-true, lt-ltb, ltb-true, List, [], length, get_or, set, take, drop, replicate, length-drop, length-take, get_or-drop, get_or-take, get_or_build, get_or_build_past, placed, Off, off_less, placed_none, placed_next, length_placed, placed_in, placed_off, placed_keeps, placed_same, copied_placed, all_below, all_below_lem, ℤ, pos, negsuc, Each, le_true, up_to_le}
pub use Rattle.numbers.specs.Lists.{Bytes}
use Rattle.transform.specs.Lanes.{by_blocks}
use Rattle.numbers.specs.declared.Refused.TheVariants as K
use Rattle.predict.specs.declared.Border.{Border}
use Rattle.predict.specs.Predict.{Size, dc_of}
use Rattle.planes.specs.Paint.{sample_at, near_of, first_places, edge_of, above_right_of, rows_painted, painted, block_coefficients, block_residual, summed_of, block_painted, cell_column, cell_row, blocks_painted, large_rule, small_rule, prediction_rule, square_painted, square_blocks, paint_modes_fine, side_fine_of, square_fine_of, coefficients_fine, paint_fine, PaintedPlane, paint_of}
use Rattle.planes.specs.Pieces.{rows_placed}
use Rattle.planes.specs.Places.{Square, Outside, run_inside, sub_square, apart, outside_sub, BlockSides, cell, Within, other, by_size, size_some, quarter, size_sides, tiles}

-- arguments with which the square at column x, row y can be painted
pub record Good (len w x y n : ℕ) (small : Bool) (mode : ℕ) (modes : List ℕ) : Type 0 where
  pub size : Size n
  pub square : Square len w x y n
  pub whole : x + n < w → x + n + n ≤ w
  pub large : small ≡ false → mode < 4
  pub luma : small ≡ true → n ≡ 16
  pub each : small ≡ true → (k : ℕ) → k < 16 → get_or modes k 0 < 10

module _ {len w x y n mode : ℕ} {small : Bool} {modes : List ℕ} (g : Good len w x y n small mode modes) where
  pub luma_square : small ≡ true → Square len w x y 16
  luma_square e = subst (λ (k : ℕ). Square len w x y k) (g.luma e) g.square

  pub luma_whole : small ≡ true → x + 16 < w → x + 20 ≤ w
  luma_whole e h = let q = g.luma e in omega (arith, g.whole (omega arith))

-- ---- around
pub near_top : (p : List ℕ) (w x y : ℕ) → y ≡ 0 → 127 ≡ near_of p w x y
unfolding near_of
near_top p w x zero e = refl
near_top p w x (suc y) e = absurd (omega arith)

pub near_side : (p : List ℕ) (w x y : ℕ) → 0 < y → x ≡ 0 → 129 ≡ near_of p w x y
unfolding near_of
near_side p w x zero h e = absurd (omega arith)
near_side p w zero (suc y) h e = refl
near_side p w (suc x) (suc y) h e = absurd (omega arith)

-- inside: column x of row y
pub near_at : (p : List ℕ) (w x y : ℕ) {m n i : ℕ} → m ≡ x + 1 → n ≡ y + 1 → i ≡ y * w + x → get_or p i 0 ≡ near_of p w m n
unfolding near_of
near_at p w x y d e f = rw (d, e, f, add-one x, add-one y)

-- the first of an edge, one after the other
module _ (f : ℕ → ℕ) where
  pub first_none : first_places 0 f ≡ replicate 16 0
  unfolding first_places
  first_none = placed_none (replicate 16 0) 0 f

  pub first_next : (n : ℕ) → set (first_places n f) n (f n) ≡ first_places (n + 1) f
  unfolding first_places
  first_next n = subst (λ (k : ℕ). set (placed (replicate 16 0) 0 f n) k (f n) ≡ placed (replicate 16 0) 0 f (n + 1)) (zero-add n) (placed_next (replicate 16 0) 0 f n)

-- ---- rows
module _ (p : List ℕ) (w x y n : ℕ) (f : ℕ → ℕ → ℕ) where
  pub rows_none : rows_placed p w x y n f 0 ≡ p
  unfolding rows_placed
  rows_none = refl

  pub rows_next : (j : ℕ) → placed (rows_placed p w x y n f j) ((y + j) * w + x) (f j) n ≡ rows_placed p w x y n f (j + 1)
  unfolding rows_placed
  rows_next j = rw add-one

  pub length_rows : (j : ℕ) → length (rows_placed p w x y n f j) ≡ length p
  unfolding rows_placed
  length_rows zero = refl
  length_rows (suc j) = length_placed (rows_placed p w x y n f j) ((y + j) * w + x) (f j) n ∙ length_rows j

  -- column c of row r: outside them nothing changes, inside stands the sample
  pub rows_off : (m c r : ℕ) → x + n ≤ w → c < w → Off x n c ⊎ Off y m r → sample_at (rows_placed p w x y n f m) w c r ≡ sample_at p w c r
  unfolding rows_placed
  rows_off zero c r l h o = refl
  rows_off (suc m) c r l h o =
      placed_off (rows_placed p w x y n f m) ((y + m) * w + x) (f m) n (r * w + c) 0 (apart (y + m) r w x n c h l (last o))
      ∙ rows_off m c r l h (less o)
    where
      last : Off x n c ⊎ Off y (suc m) r → Off x n c ⊎ Off (y + m) 1 r
      last (inl a) = inl a
      last (inr (inl a)) = inr (inl (omega arith))
      last (inr (inr a)) = inr (inr (omega arith))

      less : Off x n c ⊎ Off y (suc m) r → Off x n c ⊎ Off y m r
      less (inl a) = inl a
      less (inr a) = inr (off_less y m r a)

  pub rows_in : (m j k : ℕ) → x + n ≤ w → (y + m) * w ≤ length p → j < m → k < n
      → sample_at (rows_placed p w x y n f m) w (x + k) (y + j) ≡ f j k
  unfolding rows_placed
  rows_in zero j k l h a b = absurd (omega arith)
  rows_in (suc m) j k l h a b =
      let q = rows_placed p w x y n f m in
      let i : (y + m) * w + x + n ≤ length q = rw (length_rows m) (run_inside {y = y + m} {h = y + suc m} x n (omega arith) l h) in
      elim (ℕ_discrete j m) [
        | yes e ↦ rw (e, ← add_assoc) (placed_in q ((y + m) * w + x) (f m) n k 0 i b)
        | no e ↦
            placed_off q ((y + m) * w + x) (f m) n ((y + j) * w + (x + k)) 0 (apart (y + m) (y + j) w x n (x + k) (omega arith) l (inr (inl (omega arith))))
            ∙ rows_in m j k l (omega (arith, mul-le-mul_right {m = y + m} {n = y + suc m} w (omega arith))) (omega arith) b
      ]

-- two rules that agree paint the same
pub rows_same : (p : List ℕ) (w x y n : ℕ) (f g : ℕ → ℕ → ℕ) (m : ℕ) → ((j k : ℕ) → j < m → k < n → f j k ≡ g j k)
    → rows_placed p w x y n f m ≡ rows_placed p w x y n g m
unfolding rows_placed
rows_same p w x y n f g zero h = refl
rows_same p w x y n f g (suc m) h =
    ap (λ (q : List ℕ). placed q ((y + m) * w + x) (f m) n) (rows_same p w x y n f g m (λ j k l. h j k (omega arith)))
    ∙ placed_same (rows_placed p w x y n g m) ((y + m) * w + x) (f m) (g m) n (λ k l. h m k (omega arith) l)

-- ---- the coefficients of a sub-block, one by one, and its residual
module _ (c : List ℤ) (i : ℕ) (h : 16 * i + 16 ≤ length c) where
  pub length_block : length (block_coefficients c i) ≡ 16
  unfolding block_coefficients
  length_block = simp (length-take, length-drop) (omega arith)

  pub block_at : (k : ℕ) (d : ℤ) → k < 16 → get_or (block_coefficients c i) k d ≡ get_or c (16 * i + k) d
  unfolding block_coefficients
  block_at k d l = rw (get_or-take, get_or-drop)

-- ---- a sub-block painted is four rows of four
module _ (p : List ℕ) (w x y : ℕ) (b : List ℕ) where
  painted_to : (m : ℕ) → rows_painted p w x y b m ≡ rows_placed p w x y 4 (λ j k. get_or b (4 * j + k) 0) m
  unfolding rows_painted rows_placed
  painted_to zero = refl
  painted_to (suc m) =
      copied_placed (rows_painted p w x y b m) ((y + m) * w + x) b (4 * m) 4
      ∙ ap (λ (q : List ℕ). placed q ((y + m) * w + x) (λ k. get_or b (4 * m + k) 0) 4) (painted_to m)

  pub painted_rows : painted p w x y b ≡ rows_placed p w x y 4 (λ j k. get_or b (4 * j + k) 0) 4
  painted_rows = painted_to 4

  pub length_painted : length (painted p w x y b) ≡ length p
  length_painted = ap length painted_rows ∙ length_rows p w x y 4 _ 4

-- column c of row r, outside it and in it
module _ (p : List ℕ) (w x y : ℕ) (b : List ℕ) (c r : ℕ) where
  pub painted_off : x + 4 ≤ w → c < w → Outside x y 4 c r → sample_at (painted p w x y b) w c r ≡ sample_at p w c r
  painted_off l h o = ap (λ (q : List ℕ). sample_at q w c r) (painted_rows p w x y b) ∙ rows_off p w x y 4 _ 4 c r l h o

  pub painted_in_lem : Square (length p) w x y 4 → Within x y c r → sample_at (painted p w x y b) w c r ≡ get_or b (4 * (r - y) + (c - x)) 0
  painted_in_lem s h =
      subst (λ (d : ℕ). sample_at (painted p w x y b) w d r ≡ get_or b (4 * (r - y) + (c - x)) 0) (omega arith)
      (subst (λ (d : ℕ). sample_at (painted p w x y b) w (x + (c - x)) d ≡ get_or b (4 * (r - y) + (c - x)) 0) (omega arith)
      (ap (λ (q : List ℕ). sample_at q w (x + (c - x)) (y + (r - y))) (painted_rows p w x y b)
      ∙ rows_in p w x y 4 (λ j k. get_or b (4 * j + k) 0) 4 (r - y) (c - x) s.columns s.rows (omega (arith, h.bottom)) (omega (arith, h.right))))

module _ (p : List ℕ) (w x y : ℕ) (pred : List ℕ) (cs : List ℤ) (i : ℕ) where
  pub length_one : length (block_painted p w x y pred cs i) ≡ length p
  unfolding block_painted
  length_one = length_painted p w x y _

  pub one_off : (c r : ℕ) → x + 4 ≤ w → c < w → Outside x y 4 c r → sample_at (block_painted p w x y pred cs i) w c r ≡ sample_at p w c r
  unfolding block_painted
  one_off c r l h o = painted_off p w x y (summed_of pred (block_residual cs i)) c r l h o

  pub one_in : (c r : ℕ) → Square (length p) w x y 4 → Within x y c r
      → sample_at (block_painted p w x y pred cs i) w c r ≡ get_or (summed_of pred (block_residual cs i)) (4 * (r - y) + (c - x)) 0
  unfolding block_painted
  one_in c r s h = painted_in_lem p w x y (summed_of pred (block_residual cs i)) c r s h

-- ---- sub-blocks painted one after the other
module _ (rule : List ℕ → ℕ → List ℕ) (p : List ℕ) (w x y m : ℕ) (cs : List ℤ) where
  pub blocks_none : blocks_painted rule p w x y m cs 0 ≡ p
  unfolding blocks_painted
  blocks_none = refl

  pub blocks_next : (i : ℕ) {q : List ℕ} → q ≡ blocks_painted rule p w x y m cs i
      → block_painted q w (x + cell_column m i) (y + cell_row m i) (rule q i) cs i ≡ blocks_painted rule p w x y m cs (i + 1)
  unfolding blocks_painted
  blocks_next i e = rw (add-one, e)

  pub length_blocks : (i : ℕ) → length (blocks_painted rule p w x y m cs i) ≡ length p
  unfolding blocks_painted
  length_blocks zero = refl
  length_blocks (suc i) = let q = blocks_painted rule p w x y m cs i in length_one q w (x + cell_column m i) (y + cell_row m i) (rule q i) cs i ∙ length_blocks i

  -- the sub-block that is due lies in the plane as those before it left it
  pub due : (i : ℕ) → BlockSides m → Square (length p) w x y (4 * m) → i < m * m → Square (length (blocks_painted rule p w x y m cs i)) w (x + cell_column m i) (y + cell_row m i) 4
  due i s t h = rw (length_blocks i) (sub_square t (cell_column m i) (cell_row m i) 4 (cell s h).inside (cell s h).above)

  -- outside the square nothing changes
  pub blocks_off : (i c r : ℕ) → BlockSides m → Square (length p) w x y (4 * m) → i ≤ m * m → c < w → Outside x y (4 * m) c r
      → sample_at (blocks_painted rule p w x y m cs i) w c r ≡ sample_at p w c r
  unfolding blocks_painted
  blocks_off zero c r s t l h o = refl
  blocks_off (suc i) c r s t l h o =
      let q = blocks_painted rule p w x y m cs i in
      let k : i < m * m = omega arith in
      one_off q w (x + cell_column m i) (y + cell_row m i) (rule q i) cs i c r (due i s t k).columns h (outside_sub (cell_column m i) (cell_row m i) 4 (cell s k).inside (cell s k).above o)
      ∙ blocks_off i c r s t (omega arith) h o

  -- a sample of sub-block i is what it was until that is painted
  pub blocks_yet : (j i c r : ℕ) → BlockSides m → Square (length p) w x y (4 * m) → j ≤ i → i < m * m → c < w
      → Within (x + cell_column m i) (y + cell_row m i) c r → sample_at (blocks_painted rule p w x y m cs j) w c r ≡ sample_at p w c r
  unfolding blocks_painted
  blocks_yet zero i c r s t l h g k = refl
  blocks_yet (suc j) i c r s t l h g k =
      let q = blocks_painted rule p w x y m cs j in
      one_off q w (x + cell_column m j) (y + cell_row m j) (rule q j) cs j c r (due j s t (omega arith)).columns g (other x y i j s (λ z. omega arith) k)
      ∙ blocks_yet j i c r s t (omega arith) h g k

  -- a sample of sub-block i is what was painted for it: those after it lie elsewhere
  abbrev pub painted_in : (i c r : ℕ) → ℕ
  painted_in i c r =
      get_or (summed_of (rule (blocks_painted rule p w x y m cs i) i) (block_residual cs i)) (4 * (r - (y + cell_row m i)) + (c - (x + cell_column m i))) 0

  pub blocks_in : BlockSides m → Square (length p) w x y (4 * m) → (i c r : ℕ) → i < m * m → Within (x + cell_column m i) (y + cell_row m i) c r → (j : ℕ) → i < j → j ≤ m * m
      → sample_at (blocks_painted rule p w x y m cs j) w c r ≡ painted_in i c r
  unfolding blocks_painted
  blocks_in s t i c r h k zero a b = absurd (omega arith)
  blocks_in s t i c r h k (suc j) a b =
      let q = blocks_painted rule p w x y m cs j in
      elim (eq_or i j) [
        | inl e ↦
            subst (λ (z : ℕ). sample_at (block_painted (blocks_painted rule p w x y m cs z) w (x + cell_column m z) (y + cell_row m z) (rule (blocks_painted rule p w x y m cs z) z) cs z) w c r ≡ painted_in i c r) e
            (one_in (blocks_painted rule p w x y m cs i) w (x + cell_column m i) (y + cell_row m i) (rule (blocks_painted rule p w x y m cs i) i) cs i c r (due i s t h) k)
        | inr e ↦
            one_off q w (x + cell_column m j) (y + cell_row m j) (rule q j) cs j c r (due j s t (omega arith)).columns (omega (arith, k.right, (due i s t h).columns)) (other x y i j s (λ z. omega arith) k)
            ∙ blocks_in s t i c r h k j (omega arith) (omega arith)
      ]

-- ---- bytes stay bytes
summed_bytes : (pred : List ℕ) (res : List ℤ) → Bytes (summed_of pred res)
unfolding summed_of
summed_bytes pred res k = elim (lt_or k 16) [
  | inl h ↦ rw get_or_build (omega (arith, up_to_le 255 (pos (get_or pred k 0) +ℤ get_or res k (pos 0))))
  | inr h ↦ rw get_or_build_past (omega arith)
]

rows_bytes : (p : List ℕ) (w x y n : ℕ) (f : ℕ → ℕ → ℕ) (m : ℕ) → ((j k : ℕ) → f j k < 256) → Bytes p → Bytes (rows_placed p w x y n f m)
unfolding rows_placed
rows_bytes p w x y n f zero h g = g
rows_bytes p w x y n f (suc m) h g =
    placed_keeps (λ (v : ℕ). v < 256) (rows_placed p w x y n f m) ((y + m) * w + x) (f m) n 0 (rows_bytes p w x y n f m h g) (h m)

blocks_bytes : (rule : List ℕ → ℕ → List ℕ) (p : List ℕ) (w x y m : ℕ) (cs : List ℤ) (i : ℕ) → Bytes p → Bytes (blocks_painted rule p w x y m cs i)
unfolding blocks_painted block_painted
blocks_bytes rule p w x y m cs zero g = g
blocks_bytes rule p w x y m cs (suc i) g =
    let q = blocks_painted rule p w x y m cs i in
    subst Bytes (sym (painted_rows q w (x + cell_column m i) (y + cell_row m i) (summed_of (rule q i) (block_residual cs i))))
    (rows_bytes q w (x + cell_column m i) (y + cell_row m i) 4 _ 4 (λ j k. summed_bytes (rule q i) (block_residual cs i) (4 * j + k)) (blocks_bytes rule p w x y m cs i g))

-- ---- the square
module _ (p : List ℕ) (w x y n : ℕ) (small : Bool) (mode : ℕ) (modes : List ℕ) (cs : List ℤ) where
  -- what the code paints in each kind of mode
  pub square_small : {r : List ℕ} → small ≡ true → n ≡ 16 → r ≡ above_right_of p w x y
      → blocks_painted (small_rule w x y r modes) p w x y 4 cs 16 ≡ square_painted p w x y n small mode modes cs
  unfolding square_painted prediction_rule
  square_small e z f = rw (e, z, f)

  pub square_large : {dc : ℕ} {e : Border} → small ≡ false → e ≡ edge_of p w x y n → dc ≡ dc_of n e
      → blocks_painted (large_rule (n / 4) mode dc e) p w x y (n / 4) cs (n / 4 * (n / 4)) ≡ square_painted p w x y n small mode modes cs
  unfolding square_painted prediction_rule
  square_large s f d = rw (s, d, f)

  -- modes that do not count
  pub small_any : small ≡ true → n ≡ 16 → square_painted p w x y 16 true 0 modes cs ≡ square_painted p w x y n small mode modes cs
  unfolding square_painted prediction_rule
  small_any e z = rw (e, z)

  pub large_any : small ≡ false → square_painted p w x y n false mode [] cs ≡ square_painted p w x y n small mode modes cs
  unfolding square_painted prediction_rule
  large_any e = rw e

  length_square : length (square_painted p w x y n small mode modes cs) ≡ length p
  unfolding square_painted
  length_square = length_blocks (prediction_rule p w x y n small mode modes) p w x y (n / 4) cs (n / 4 * (n / 4))

  square_bytes : Bytes p → Bytes (square_painted p w x y n small mode modes cs)
  unfolding square_painted
  square_bytes b = blocks_bytes (prediction_rule p w x y n small mode modes) p w x y (n / 4) cs (n / 4 * (n / 4)) b

  module _ (s : Size n) (t : Square (length p) w x y n) (c r : ℕ) where
    pub square_off : c < w → Outside x y n c r → sample_at (square_painted p w x y n small mode modes cs) w c r ≡ sample_at p w c r
    unfolding square_painted
    square_off h o =
        blocks_off (prediction_rule p w x y n small mode modes) p w x y (n / 4) cs (n / 4 * (n / 4)) c r (size_sides s) (rw (quarter s) t) (omega arith) h (rw (quarter s) o)

-- ---- what the checks say
either : (a b : Bool) → a || b ≡ true → (a ≡ true) ⊎ (b ≡ true)
either true b e = inl refl
either false b e = inr e

module _ (n mode : ℕ) (modes : List ℕ) where
  small_fine : paint_modes_fine n true mode modes ≡ true → (n ≡ 16) × ((k : ℕ) → k < 16 → get_or modes k 0 < 10)
  unfolding paint_modes_fine
  small_fine e =
      let t : ℕ → Bool = λ k. ltb (get_or modes k 0) 10 in (
        eqb-true n 16 (both_left (eqb n 16) (all_below 16 t) e),
        λ k h. ltb-true (get_or modes k 0) 10 (all_below_lem t 16 (both_right (eqb n 16) (all_below 16 t) e) k h),
      )

  large_fine : paint_modes_fine n false mode modes ≡ true → Size n × (mode < 4)
  unfolding paint_modes_fine
  large_fine e =
      let t = eqb n 8 || eqb n 16 in
      (size (either (eqb n 8) (eqb n 16) (both_left t (ltb mode 4) e)), ltb-true mode 4 (both_right t (ltb mode 4) e))
    where
      size : (eqb n 8 ≡ true) ⊎ (eqb n 16 ≡ true) → Size n
      size (inl h) = inl (eqb-true n 8 h)
      size (inr h) = inr (eqb-true n 16 h)

pub modes_size : (n : ℕ) (small : Bool) (mode : ℕ) (modes : List ℕ) → paint_modes_fine n small mode modes ≡ true → Size n
modes_size n true mode modes e = inr (small_fine n mode modes e).0
modes_size n false mode modes e = (large_fine n mode modes e).0

-- the square is one of whole squares in the plane
pub record Tiled (len w column row n : ℕ) : Type 0 where
  pub square : Square len w (column * n) (row * n) n
  pub whole : column * n + n < w → column * n + n + n ≤ w
  pub few : (column ≤ 16384) × (row ≤ 16384)

pub square_tiled : {n : ℕ} (len w column row : ℕ) → Size n → square_fine_of len w column row n ≡ true → Tiled len w column row n
unfolding square_fine_of
square_tiled {n} len w column row s e =
    let rows = len / w in
    let t1 = leb w 16384 in
    let t2 = leb rows 16384 in
    let t3 = eqb (len % w) 0 in
    let t4 = side_fine_of w column n in
    let t5 = side_fine_of rows row n in
    let e5 = both_right (ltb 0 w) (t1 && t2 && t3 && t4 && t5) e in
    let e4 = both_left (t1 && t2 && t3 && t4) t5 e5 in
    let e2 = both_left (t1 && t2) t3 (both_left (t1 && t2 && t3) t4 e4) in
    let a = side w column (both_right (t1 && t2 && t3) t4 e4) in
    let b = side rows row (both_right (t1 && t2 && t3 && t4) t5 e5) in
    let l1 = leb-true w 16384 (both_left t1 t2 e2) in
    let l2 = leb-true rows 16384 (both_right t1 t2 e2) in
    record {
      square = record {
        columns = a.0;
        rows = omega (arith, mul-le-mul_right {m = row * n + n} {n = rows} w b.0, div-mul-le_self len w);
        wide = l1;
        high = omega (arith, b.0);
      };
      whole = a.1;
      few = (omega (arith, a.0, times_some column (size_some s).0), omega (arith, b.0, times_some row (size_some s).0));
    }
  where
    side : (m k : ℕ) → side_fine_of m k n ≡ true → (k * n + n ≤ m) × (k * n + n < m → k * n + n + n ≤ m)
    side m k h = tiles m k s (eqb-true (m % n) 0 (both_left (eqb (m % n) 0) (ltb k (m / n)) h)) (ltb-true k (m / n) (both_right (eqb (m % n) 0) (ltb k (m / n)) h))

    times_some : (k : ℕ) {n : ℕ} → 0 < n → k ≤ k * n
    times_some k h = let r : k ≤ k = omega arith in omega (arith, mul-le-mul r h, mul-one k)

module _ (len w column row n : ℕ) (small : Bool) (mode : ℕ) (modes : List ℕ) where
  pub checks_good : paint_modes_fine n small mode modes ≡ true → square_fine_of len w column row n ≡ true → Good len w (column * n) (row * n) n small mode modes
  checks_good e f =
      let s = modes_size n small mode modes e in
      let t = square_tiled len w column row s f in
      record {
        size = s;
        square = t.square;
        whole = t.whole;
        large = λ q. (large_fine n mode modes (rw q at e)).1;
        luma = λ q. (small_fine n mode modes (rw q at e)).0;
        each = λ q. (small_fine n mode modes (rw q at e)).1;
      }

  fine_good : (c : List ℤ) → paint_fine len w column row n small mode modes c ≡ true → Good len w (column * n) (row * n) n small mode modes
  unfolding paint_fine
  fine_good c h =
      let a = paint_modes_fine n small mode modes in
      let b = square_fine_of len w column row n in
      let d = coefficients_fine n c in
      checks_good (both_left a (b && d) h) (both_left b d (both_right a (b && d) h))

-- ---- the public call
-- of 8 or 16 blocks by lanes, the square's are those from block `from` on
pub square_taken : {m : ℕ} (n from : ℕ) (l : List ℤ) → Size m → length l ≡ 16 * m → square_blocks n from l ≡ take (n * n) (drop (16 * from) (by_blocks m l))
unfolding square_blocks
square_taken n from l s =
    by_size (λ (m : ℕ). length l ≡ 16 * m → square_blocks n from l ≡ take (n * n) (drop (16 * from) (by_blocks m l))) (λ e. rw e) (λ e. rw e) s

-- arguments in their ranges, in a plane of `columns` by `rows` squares
pub record Proper (len w columns rows column row n : ℕ) (small : Bool) (mode : ℕ) (modes : List ℕ) (c : List ℤ) : Type 0 where
  pub size : Size n
  pub width : w ≡ columns * n
  pub height : len ≡ rows * n * w
  pub wide : w ≤ 16384
  pub high : rows * n ≤ 16384
  pub across : column < columns
  pub down : row < rows
  pub luma : small ≡ true → n ≡ 16
  pub large : small ≡ false → mode < 4
  pub each : small ≡ true → (k : ℕ) → k < 16 → get_or modes k 0 < 10
  pub long : length c ≡ n * n
  pub fit : Each (negsuc 32767) (pos 32767) c

all_true : (f : ℕ → Bool) (n : ℕ) → ((i : ℕ) → i < n → f i ≡ true) → all_below n f ≡ true
all_true f zero h = refl
all_true f (suc n) h = both_true (h n (omega arith)) (all_true f n (λ i l. h i (omega arith)))

proper_modes : (n : ℕ) (small : Bool) (mode : ℕ) (modes : List ℕ) → Size n → (small ≡ true → n ≡ 16) → (small ≡ false → mode < 4) → (small ≡ true → (k : ℕ) → k < 16 → get_or modes k 0 < 10)
    → paint_modes_fine n small mode modes ≡ true
unfolding paint_modes_fine
proper_modes n true mode modes s a b d = both_true (eq-eqb n 16 (a refl)) (all_true _ 16 (λ k h. lt-ltb (get_or modes k 0) 10 (d refl k h)))
proper_modes n false mode modes s a b d = both_true (by_size (λ (n : ℕ). eqb n 8 || eqb n 16 ≡ true) refl refl s) (lt-ltb mode 4 (b refl))

module _ {len w columns rows column row n mode : ℕ} {small : Bool} {modes : List ℕ} {c : List ℤ} (g : Proper len w columns rows column row n small mode modes c) where
  proper_square : square_fine_of len w column row n ≡ true
  unfolding square_fine_of
  proper_square =
      let a : 0 < n = (size_some g.size).0 in
      let b : 0 < columns = omega (arith, g.across) in
      let d : 0 < w = omega (arith, g.width, mul-le-mul b a) in
      let e1 : len / w ≡ rows * n = ap (λ (k : ℕ). k / w) g.height ∙ mul-div_cancel (rows * n) d in
      let e2 : len % w ≡ 0 = ap (λ (k : ℕ). k % w) g.height ∙ mul-mod_left (rows * n) w in
      let e3 : w / n ≡ columns = ap (λ (k : ℕ). k / n) g.width ∙ mul-div_cancel columns a in
      let e4 : w % n ≡ 0 = ap (λ (k : ℕ). k % n) g.width ∙ mul-mod_left columns n in
      rw (lt-ltb 0 w d, le-leb w 16384 g.wide, e1, le-leb (rows * n) 16384 g.high, e2, e4, e3, lt-ltb column columns g.across, mul-mod_left rows n, mul-div_cancel rows a, lt-ltb row rows g.down)

  proper_coefficients : coefficients_fine n c ≡ true
  unfolding coefficients_fine
  proper_coefficients =
      both_true (eq-eqb (length c) (n * n) g.long) (all_true _ (length c) (λ k h. both_true (le_true (g.fit.at k).low) (le_true (g.fit.at k).high)))

  pub proper_fine : paint_fine len w column row n small mode modes c ≡ true
  unfolding paint_fine
  proper_fine = both_true (proper_modes n small mode modes g.size g.luma g.large g.each) (both_true proper_square proper_coefficients)

module _ (p : List ℕ) (w column row n : ℕ) (small : Bool) (mode : ℕ) (modes : List ℕ) (cs : List ℤ) where
  answered : (P : PaintedPlane → Type 0)
      → (paint_fine (length p) w column row n small mode modes cs ≡ true → P (record { answer = Ok tt; plane = square_painted p w (column * n) (row * n) n small mode modes cs }))
      → P (record { answer = Err K.OutOfRange; plane = p }) → P (paint_of p w column row n small mode modes cs)
  unfolding paint_of
  answered P f g = cond_at (paint_fine (length p) w column row n small mode modes cs) P f (λ e. g)

  pub length_paint : length (paint_of p w column row n small mode modes cs).plane ≡ length p
  length_paint = answered (λ (o : PaintedPlane). length o.plane ≡ length p) (λ e. length_square p w (column * n) (row * n) n small mode modes cs) refl

  pub paint_bytes : Bytes p → Bytes (paint_of p w column row n small mode modes cs).plane
  paint_bytes b = answered (λ (o : PaintedPlane). Bytes o.plane) (λ e. square_bytes p w (column * n) (row * n) n small mode modes cs b) b

  -- column c of row r, outside the square, is what it was
  pub paint_off : (c r : ℕ) → c < w → Outside (column * n) (row * n) n c r → sample_at (paint_of p w column row n small mode modes cs).plane w c r ≡ sample_at p w c r
  paint_off c r h o =
      answered (λ (a : PaintedPlane). sample_at a.plane w c r ≡ sample_at p w c r)
      (λ e. let g = fine_good (length p) w column row n small mode modes cs e in square_off p w (column * n) (row * n) n small mode modes cs g.size g.square c r h o) refl

  -- with arguments in their ranges the square is painted
  pub paint_fine_lem : paint_fine (length p) w column row n small mode modes cs ≡ true
      → paint_of p w column row n small mode modes cs ≡ record { answer = Ok tt; plane = square_painted p w (column * n) (row * n) n small mode modes cs }
  unfolding paint_of
  paint_fine_lem e = rw e

  pub paint_good : {columns rows : ℕ} → Proper (length p) w columns rows column row n small mode modes cs
      → paint_of p w column row n small mode modes cs ≡ record { answer = Ok tt; plane = square_painted p w (column * n) (row * n) n small mode modes cs }
  paint_good g = paint_fine_lem (proper_fine g)
