-- Laws of the code's two steps: what is predicted is put into the plane, and the residual is added to what stands there. Sub-block after
-- sub-block, and square after square, that is what the definitions paint.
use Rattle.std.specs.Prelude.{◌+◌, ◌-◌, ◌*◌, ◌/◌, ◌%◌, ◌≤◌, ◌<◌, ◌≡◌, ◌∷◌, ◌+ℤ◌, ◌≤ℤ◌}
use Rattle.numbers.specs.Words.{ℕ, add_assoc, add-mul, add-zero, div-add-mod', mod-lt, mul-zero, one-mul, zero-add, arith, bit_or, and_le_l, and_le_r, or_add_and, or_lt, refl, sym, ◌∙◌, ap, ap₂, subst, Bool, true, false, cond, inl, inr, ⊎_elim, eqb, leb, lit<, lt_or, eq_or, never, not_so, both_left, both_right, both_true, eq-eqb, leb-false, leb-true, ne_eqb, List, [], length, get_or, set, take, drop, replicate, get_or-replicate, length-drop, length-replicate, length-set, length-take, ext_get_or, get_or-drop, get_or-set_other, get_or-set_same, get_or-take, length-take-le, build, ◌∷≡◌, build_listed, get_or_build, built, build_same, get_or_constant, placed, placed_none, placed_next, length_placed, placed_self, placed_same, ℤ, pos, negsuc, lt_z, le_z_yes, Each, up, of_le, lt_parts, add_parts, same_bits, each_[], each_∷, clip_z, clamp_cases, clamp_low, clamp_high, up_to_is, up_to_same, w16, SFits, of_z, to_z, Fits-of_z, to_z_inj}
use Rattle.transform.specs.Transform.{grid_row, samples_of}
use Rattle.transform.specs.Lanes.{by_blocks, known_length_of, short_residual, lane_residual, row_place, residuals_of}
use Rattle.transform.specs.LanesLaws.{length_by_blocks, blocks_at, block_is, known_blocks, whole_blocks, residuals_at, residuals_in}
use Rattle.transform.specs.TransformBounds.{numeral_in}
use Rattle.transform.specs.TransformLaws.{below_four, below_all, below_next, in_range, shortcut}
use Rattle.predict.specs.declared.Border.{Border}
use Rattle.predict.specs.Predict.{Size, tm_one, dc_of, large_at, large_of}
use Rattle.predict.specs.PredictLaws.{small_long}
use Rattle.planes.specs.Pieces.{rows_placed, block_copied, sum_at, row_sums, row_added, block_added, lane_added, mean_of, mean_added, Residual, Fits16, lane_at, Joined, Looked, Marked, Coded, NoneBelow, FirstFit, blocks_fine_of, PlainBlock, Ready, standing, stand_rule}
use Rattle.planes.specs.Paint.{sample_at, edge_of, painted, block_residual, summed_of, block_painted, cell_column, cell_row, blocks_painted, large_rule, small_at, square_painted, square_blocks, coefficients_fine}
use Rattle.planes.specs.PaintLaws.{Bytes, length_block, block_at, rows_none, rows_next, length_rows, rows_off, rows_in, rows_same, painted_rows, length_painted, painted_off, painted_in_lem, length_blocks, blocks_yet, blocks_off, blocks_in, square_large}
use Rattle.planes.specs.Places.{Square, run_inside, BlockSides, sides_few, cell, within_or, covered, by_size, size_some, size_luma, quarter, size_sides, size_blocks}

-- ---- stores
pub placed_four : (p : List ℕ) (at : ℕ) (f : ℕ → ℕ) → set (set (set (set p at (f 0)) (at + 1) (f 1)) (at + 2) (f 2)) (at + 3) (f 3) ≡ placed p at f 4
placed_four p at f =
    let one : List ℕ → ℕ → List ℕ = λ q n. set q (at + n) (f n) in
    let first : set p at (f 0) ≡ placed p at f 1 = rw (placed_none p at f, add-zero) at (placed_next p at f 0) in
    ap (λ (q : List ℕ). one (one (one q 1) 2) 3) first ∙ ap (λ (q : List ℕ). one (one q 2) 3) (placed_next p at f 1)
    ∙ ap (λ (q : List ℕ). one q 3) (placed_next p at f 2) ∙ placed_next p at f 3

pub copied_four : (p : List ℕ) (at : ℕ) (b : List ℕ) (from : ℕ)
    → set (set (set (set p at (get_or b from 0)) (at + 1) (get_or b (from + 1) 0)) (at + 2) (get_or b (from + 2) 0)) (at + 3) (get_or b (from + 3) 0)
    ≡ placed p at (λ k. get_or b (from + k) 0) 4
copied_four p at b from = rw add-zero at (placed_four p at (λ k. get_or b (from + k) 0))

pub rows_copied_lem : (p : List ℕ) (w at : ℕ) (b : List ℕ) {q r s t : List ℕ}
    → q ≡ placed p at (λ k. get_or b (0 + k) 0) 4 → r ≡ placed q (at + w) (λ k. get_or b (4 + k) 0) 4
    → s ≡ placed r (at + 2 * w) (λ k. get_or b (8 + k) 0) 4 → t ≡ placed s (at + 3 * w) (λ k. get_or b (12 + k) 0) 4 → t ≡ block_copied p w at b
unfolding block_copied
rows_copied_lem p w at b e f g h = h ∙ rw (g, f, e)

-- ---- rows from the place of the first
module _ (w x y at : ℕ) (e : at ≡ y * w + x) where
  row_at : (j : ℕ) → at + j * w ≡ (y + j) * w + x
  row_at j = omega (arith, add-mul y j w)

  row_1 : at + w ≡ (y + 1) * w + x
  row_1 = omega (arith, row_at 1, one-mul w)

  row_0 : at ≡ (y + 0) * w + x
  row_0 = rw add-zero e

  pub block_copied_lem : (p b : List ℕ) → block_copied p w at b ≡ painted p w x y b
  unfolding block_copied rows_placed
  block_copied_lem p b =
      let e : block_copied p w at b ≡ rows_placed p w x y 4 (λ j k. get_or b (4 * j + k) 0) 4 = rw (row_at 3, row_at 2, row_1, row_0) in
      e ∙ sym (painted_rows p w x y b)

-- a row of a square: there is room for it, and it is the next
module _ (p : List ℕ) (w x y n : ℕ) (f : ℕ → ℕ → ℕ) (j : ℕ) {q : List ℕ} {at : ℕ} (e : q ≡ rows_placed p w x y n f j) (a : at ≡ (y + j) * w + x) where
  pub row_room : Square (length p) w x y n → j < n → at + n ≤ length q
  row_room s h = rw (e, length_rows, a) (run_inside {y = y + j} {h = y + n} x n (omega arith) s.columns s.rows)

  pub row_turn : {g : ℕ → ℕ} {r : List ℕ} → r ≡ placed q at g n → ((k : ℕ) → k < n → g k ≡ f j k) → r ≡ rows_placed p w x y n f (j + 1)
  row_turn {g} d h = d ∙ placed_same q at g (f j) n h ∙ rw (e, a) (rows_next p w x y n f j)

-- ---- a square in a large mode, from what is put for each
module _ (p : List ℕ) (w x y n mode : ℕ) {e : Border} {q : List ℕ} (d : e ≡ edge_of p w x y n) where
  pub predicted_mean : {dc : ℕ} → Size n → mode ≡ 0 → dc ≡ dc_of (cond (eqb n 16) 16 8) e → q ≡ rows_placed p w x y n (λ j k. get_or (replicate 16 dc) k 0) n
      → q ≡ rows_placed p w x y n (large_at mode (dc_of n (edge_of p w x y n)) (edge_of p w x y n)) n
  predicted_mean {dc} s m c g = g ∙ rows_same p w x y n _ (λ j k. dc) n (λ j k a b. get_or-replicate 16 k dc 0 (omega (arith, size_some s))) ∙ rw (m, c, size_luma s, d)

  pub predicted_tm : mode ≡ 1 → q ≡ rows_placed p w x y n (λ j k. tm_one (get_or e.left j 0) (get_or e.above k 0) e.corner) n
      → q ≡ rows_placed p w x y n (large_at mode (dc_of n (edge_of p w x y n)) (edge_of p w x y n)) n
  predicted_tm m g = g ∙ rw (m, d)

  pub predicted_above : mode ≡ 2 → q ≡ rows_placed p w x y n (λ j k. get_or e.above k 0) n
      → q ≡ rows_placed p w x y n (large_at mode (dc_of n (edge_of p w x y n)) (edge_of p w x y n)) n
  predicted_above m g = g ∙ rw (m, d)

  pub predicted_left : mode ≡ 3 → q ≡ rows_placed p w x y n (λ j k. get_or e.left j 0) n
      → q ≡ rows_placed p w x y n (large_at mode (dc_of n (edge_of p w x y n)) (edge_of p w x y n)) n
  predicted_left m g = g ∙ rw (m, d)

-- ---- a row added
module _ (p : List ℕ) (at : ℕ) (r : List ℤ) where
  pub length_added : length (row_added p at r) ≡ length p
  unfolding row_added
  length_added = length_placed p at _ 4

  pub four_sums : {a b c d : ℕ} → a ≡ clip_z (pos (get_or p at 0) +ℤ get_or r 0 (pos 0)) → b ≡ sum_at p at r 1 → c ≡ sum_at p at r 2 → d ≡ sum_at p at r 3
      → a ∷ b ∷ c ∷ d ∷ [] ≡ row_sums p at r
  unfolding row_sums
  four_sums e f g h =
      ((e ∙ ap (λ (n : ℕ). clip_z (pos (get_or p n 0) +ℤ get_or r 0 (pos 0))) (sym (add-zero at))) ∷≡ f ∷≡ g ∷≡ h ∷≡ refl) ∙ sym (build_listed 4 (sum_at p at r))

  pub sums_placed : {b q : List ℕ} → b ≡ row_sums p at r → q ≡ placed p at (λ k. get_or b (0 + k) 0) 4 → q ≡ row_added p at r
  unfolding row_added row_sums
  sums_placed e f = f ∙ placed_same p at _ (sum_at p at r) 4 (λ k h. rw (e, zero-add) (get_or_build 4 (sum_at p at r) k 0 h))

-- the same length after it
pub kept : (p : List ℕ) (at : ℕ) (r : List ℤ) {n : ℕ} {q : List ℕ} → length p ≡ n → q ≡ row_added p at r → length q ≡ n
kept p at r l e = ap length e ∙ length_added p at r ∙ l

-- four rows of it
pub rows_added : (p : List ℕ) (w at : ℕ) {q r s t : List ℕ} {a b c d a' b' c' d' : List ℤ}
    → q ≡ row_added p at a → r ≡ row_added q (at + w) b → s ≡ row_added r (at + 2 * w) c → t ≡ row_added s (at + 3 * w) d
    → a ≡ a' → b ≡ b' → c ≡ c' → d ≡ d' → t ≡ block_added p w at a' b' c' d'
rows_added p w at e f g h i j k l = h ∙ rw (g, f, e, i, j, k, l)

pub lane_near : (r : List ℤ) (from : ℕ) → Each (negsuc 32512) (pos 32512) r → Each (negsuc 32512) (pos 32512) (grid_row r from)
lane_near r from e = each_∷ (e.at (from + 0)) (each_∷ (e.at (from + 1)) (each_∷ (e.at (from + 2)) (each_∷ (e.at (from + 3)) (each_[] tt))))

pub same_near : {v : ℤ} → Residual v → Each (negsuc 32512) (pos 32512) (replicate 4 v)
same_near i = each_∷ i (each_∷ i (each_∷ i (each_∷ i (each_[] tt))))

-- nothing added
module _ (p : List ℕ) (b : Bytes p) where
  row_none : (at : ℕ) → row_added p at (replicate 4 (pos 0)) ≡ p
  unfolding row_added
  row_none at = placed_same p at _ _ 4 (λ k h. same (at + k) k) ∙ placed_self p 0 at 4
    where
      same : (i k : ℕ) → clip_z (pos (get_or p i 0) +ℤ get_or (replicate 4 (pos 0)) k (pos 0)) ≡ get_or p i 0
      same i k = rw (get_or_constant 4 k (pos 0), add-zero) (up_to_same (omega (arith, b i)))

  pub mean_none : (w at : ℕ) {dc : ℤ} → dc ≡ pos 0 → p ≡ mean_added p w at dc
  mean_none w at e =
      sym (ap (mean_added p w at) e ∙ ap (λ (q : List ℕ). row (row (row q (at + w)) (at + 2 * w)) (at + 3 * w)) (row_none at)
      ∙ ap (λ (q : List ℕ). row (row q (at + 2 * w)) (at + 3 * w)) (row_none (at + w)) ∙ ap (λ (q : List ℕ). row q (at + 3 * w)) (row_none (at + 2 * w)) ∙ row_none (at + 3 * w))
    where
      row : List ℕ → ℕ → List ℕ
      row q i = row_added q i (replicate 4 (pos 0))

-- ---- four rows added are the sum of what stands there and the residual
module _ (p : List ℕ) (w x y : ℕ) (z : List ℤ) where
  abbrev summed : (j k : ℕ) → ℕ
  summed j k = clip_z (pos (sample_at p w (x + k) (y + j)) +ℤ get_or z (4 * j + k) (pos 0))

  -- a row r of it
  next_row : (j : ℕ) {q : List ℕ} {at : ℕ} (r : List ℤ) → x + 4 ≤ w → q ≡ rows_placed p w x y 4 summed j → at ≡ (y + j) * w + x
      → ((k : ℕ) → k < 4 → get_or r k (pos 0) ≡ get_or z (4 * j + k) (pos 0)) → row_added q at r ≡ rows_placed p w x y 4 summed (j + 1)
  unfolding row_added
  next_row j {q} {at} r l e a h = row_turn p w x y 4 summed j e a refl same
    where
      same : (k : ℕ) → k < 4 → clip_z (pos (get_or q (at + k) 0) +ℤ get_or r k (pos 0)) ≡ summed j k
      same k g =
          ap₂ (λ (s : ℕ) (v : ℤ). clip_z (pos s +ℤ v))
          (let i : at + k ≡ (y + j) * w + (x + k) = omega arith in ap₂ (λ (l : List ℕ) (n : ℕ). get_or l n 0) e i ∙ rows_off p w x y 4 summed j (x + k) (y + j) l (omega arith) (inr (inr (omega arith))))
          (h k g)

  summed_is : (j k : ℕ) → j < 4 → k < 4 → summed j k ≡ get_or (summed_of (standing p w x y) z) (4 * j + k) 0
  unfolding summed_of standing
  summed_is j k h g =
      let a : (4 * j + k) % 4 ≡ k = omega arith in
      let b : (4 * j + k) / 4 ≡ j = omega arith in
      rw (get_or_build 16 (λ i. clip_z (pos (get_or (build 16 (λ i. sample_at p w (x + i % 4) (y + i / 4))) i 0) +ℤ get_or z i (pos 0))) (4 * j + k) 0 (omega arith), get_or_build 16 (λ i. sample_at p w (x + i % 4) (y + i / 4)) (4 * j + k) 0 (omega arith), a, b)

  pub block_added_lem : {at : ℕ} (a b c d : List ℤ) → x + 4 ≤ w → at ≡ y * w + x
      → ((k : ℕ) → k < 4 → get_or a k (pos 0) ≡ get_or z (0 + k) (pos 0)) → ((k : ℕ) → k < 4 → get_or b k (pos 0) ≡ get_or z (4 + k) (pos 0))
      → ((k : ℕ) → k < 4 → get_or c k (pos 0) ≡ get_or z (8 + k) (pos 0)) → ((k : ℕ) → k < 4 → get_or d k (pos 0) ≡ get_or z (12 + k) (pos 0))
      → block_added p w at a b c d ≡ painted p w x y (summed_of (standing p w x y) z)
  block_added_lem {at} a b c d l e f g h i =
      next_row 3 d l (next_row 2 c l (next_row 1 b l (next_row 0 a l (sym (rows_none p w x y 4 summed)) (row_0 w x y at e) f) (row_1 w x y at e) g) (row_at w x y at e 2) h) (row_at w x y at e 3) i
      ∙ rows_same p w x y 4 _ _ 4 summed_is ∙ sym (painted_rows p w x y (summed_of (standing p w x y) z))

-- a residual with room left gives the same samples
clip_low : {v : ℤ} → v ≤ℤ pos 0 → clip_z v ≡ 0
clip_low {v} h = ap up (up_to_is 255 v ∙ clamp_low (le_z_yes tt) h)

clip_high : {v : ℤ} → pos 255 ≤ℤ v → clip_z v ≡ 255
clip_high {v} h = ap up (up_to_is 255 v ∙ clamp_high (le_z_yes tt) h)

clip_near : (s : ℕ) (v : ℤ) → s < 256 → clip_z (pos s +ℤ short_residual v) ≡ clip_z (pos s +ℤ v)
clip_near s v h = clamp_cases (negsuc 32512) (pos 32512) v (λ (z : ℤ). clip_z (pos s +ℤ z) ≡ clip_z (pos s +ℤ v)) low high (λ e f. refl)
  where
    low : lt_z v (negsuc 32512) ≡ true → clip_z (pos s +ℤ negsuc 32512) ≡ clip_z (pos s +ℤ v)
    low e =
        let a = add_parts (pos s) (negsuc 32512) in
        let b = add_parts (pos s) v in
        let l = lt_parts v (negsuc 32512) e in
        clip_low {v = pos s +ℤ negsuc 32512} (of_le (omega arith)) ∙ sym (clip_low {v = pos s +ℤ v} (of_le (omega arith)))

    high : lt_z v (negsuc 32512) ≡ false → lt_z (pos 32512) v ≡ true → clip_z (pos s +ℤ pos 32512) ≡ clip_z (pos s +ℤ v)
    high e f =
        let a = add_parts (pos s) (pos 32512) in
        let b = add_parts (pos s) v in
        let l = lt_parts (pos 32512) v f in
        clip_high {v = pos s +ℤ pos 32512} (of_le (omega arith)) ∙ sym (clip_high {v = pos s +ℤ v} (of_le (omega arith)))

module _ (p : List ℕ) (w x y : ℕ) (b : Bytes p) (z : List ℤ) where
  pub summed_near : summed_of (standing p w x y) (build 16 (λ k. short_residual (get_or z k (pos 0)))) ≡ summed_of (standing p w x y) z
  unfolding summed_of standing
  summed_near = build_same 16 _ _ (λ k h.
      ap₂ (λ (s : ℕ) (v : ℤ). clip_z (pos s +ℤ v)) refl (get_or_build 16 _ k (pos 0) h)
      ∙ clip_near (get_or (build 16 (λ i. sample_at p w (x + i % 4) (y + i / 4))) k 0) (get_or z k (pos 0)) (rw (get_or_build 16 (λ i. sample_at p w (x + i % 4) (y + i / 4)) k 0 h) (b _)))

-- ---- a sub-block's residual added is the sub-block painted over what stands there
lane_at_lem : (r : List ℤ) (from k : ℕ) → k < 4 → get_or (grid_row r from) k (pos 0) ≡ get_or r (from + k) (pos 0)
lane_at_lem r from = below_four (λ k. get_or (grid_row r from) k (pos 0) ≡ get_or r (from + k) (pos 0)) refl refl refl refl

module _ {c : List ℤ} {from : ℕ} {s : List ℤ} {coded : List Bool} {r : List ℤ} {n : ℕ} (ready : Ready c from s coded r n) (p : List ℕ) (bytes : Bytes p) (w x y i : ℕ) {at : ℕ} (h : i < n) (l : x + 4 ≤ w) (e : at ≡ y * w + x) where
  coded_added : get_or coded (from + i) false ≡ true → lane_added p w at r (from + i) ≡ painted p w x y (summed_of (standing p w x y) (block_residual s i))
  coded_added b =
      block_added_lem p w x y near _ _ _ _ l e (row 0 _ (omega arith)) (row 1 _ (omega arith)) (row 2 _ (omega arith)) (row 3 _ (omega arith))
      ∙ ap (painted p w x y) (summed_near p w x y bytes (block_residual s i))
    where
      near : List ℤ
      near = build 16 (λ k. short_residual (get_or (block_residual s i) k (pos 0)))

      row : (y m : ℕ) → (m ≡ 64 * y + 4 * (from + i)) × (y < 4) → (k : ℕ) → k < 4 → get_or (grid_row r m) k (pos 0) ≡ get_or near (4 * y + k) (pos 0)
      row y m a k g =
          let q : m + k ≡ row_place (from + i) (4 * y + k) = omega arith in
          lane_at_lem r m k g ∙ ap (λ (j : ℕ). get_or r j (pos 0)) q ∙ ready.lane i (4 * y + k) h (omega arith) b ∙ sym (get_or_build 16 _ (4 * y + k) (pos 0) (omega arith))

  plain_residual : PlainBlock 16 s i → block_residual s i ≡ replicate 16 (mean_of (get_or s (16 * i) (pos 0)))
  unfolding block_residual
  plain_residual q =
      let m : 16 * i + 16 ≤ length s = omega (arith, ready.long) in
      shortcut false (record { zero = λ k a b. block_at s i m k (pos 0) b ∙ q k a b }) ∙ ap (λ (v : ℤ). replicate 16 (mean_of v)) (block_at s i m 0 (pos 0) (omega arith) ∙ ap (λ (j : ℕ). get_or s j (pos 0)) (add-zero (16 * i)))

  plain_added : get_or coded (from + i) false ≡ false → mean_added p w at (get_or s (16 * i) (pos 0)) ≡ painted p w x y (summed_of (standing p w x y) (block_residual s i))
  plain_added b =
      let v = mean_of (get_or s (16 * i) (pos 0)) in
      let row : (f : ℕ) → f ≤ 12 → (k : ℕ) → k < 4 → get_or (replicate 4 v) k (pos 0) ≡ get_or (block_residual s i) (f + k) (pos 0) =
      λ f a k g. get_or-replicate 4 k v (pos 0) g ∙ sym (ap (λ (z : List ℤ). get_or z (f + k) (pos 0)) (plain_residual (ready.plain i h b)) ∙ get_or-replicate 16 (f + k) v (pos 0) (omega arith)) in
      block_added_lem p w x y (block_residual s i) _ _ _ _ l e (row 0 (omega arith)) (row 4 (omega arith)) (row 8 (omega arith)) (row 12 (omega arith))

  -- j is the block's number among all
  pub added_block : {j : ℕ} {b : Bool} {dc : ℤ} → j ≡ from + i → b ≡ get_or coded j false → dc ≡ get_or c j (pos 0)
      → cond b (lane_added p w at r j) (mean_added p w at dc) ≡ block_painted p w x y (standing p w x y) s i
  unfolding block_painted
  added_block {j} {b} {dc} d f g = rw (f, g, d, ready.first i h) (by (get_or coded (from + i) false) refl)
    where
      by : (b : Bool) → get_or coded (from + i) false ≡ b → cond b (lane_added p w at r (from + i)) (mean_added p w at (get_or s (16 * i) (pos 0))) ≡ painted p w x y (summed_of (standing p w x y) (block_residual s i))
      by true a = coded_added a
      by false a = plain_added a

-- ---- two planes are equal where their samples are
ext_samples : (p q : List ℕ) (w : ℕ) → 0 < w → length p ≡ length q → ((c r : ℕ) → c < w → sample_at p w c r ≡ sample_at q w c r) → p ≡ q
ext_samples p q w h e f =
    ext_get_or 0 p q e (λ i g. let z = div-add-mod' i w in ap (λ (k : ℕ). get_or p k 0) (sym z) ∙ f (i % w) (i / w) (mod-lt i h) ∙ ap (λ (k : ℕ). get_or q k 0) z)

-- ---- a sub-block put into the plane, then painted over
module _ (p : List ℕ) (w x y : ℕ) (s : Square (length p) w x y 4) where
  standing_painted : (b : List ℕ) → length b ≡ 16 → standing (painted p w x y b) w x y ≡ b
  unfolding standing
  standing_painted b l =
      sym (built b 16 _ 0 l (λ k h.
      let z : k ≡ 4 * (k / 4) + k % 4 = omega arith in
      ap (λ (j : ℕ). get_or b j 0) z ∙ sym (ap (λ (q : List ℕ). sample_at q w (x + k % 4) (y + k / 4)) (painted_rows p w x y b)
      ∙ rows_in p w x y 4 (λ j k. get_or b (4 * j + k) 0) 4 (k / 4) (k % 4) s.columns s.rows (omega arith) (omega arith))))

  painted_over : (a b : List ℕ) → painted (painted p w x y a) w x y b ≡ painted p w x y b
  painted_over a b =
      let q = painted p w x y a in
      let t : Square (length q) w x y 4 = rw (length_painted p w x y a) s in
      ext_samples _ _ w (omega (arith, s.columns)) (length_painted q w x y b ∙ length_painted p w x y a ∙ sym (length_painted p w x y b))
      (λ c r h. elim (within_or x y c r) [
        | inl k ↦ painted_in_lem q w x y b c r t k ∙ sym (painted_in_lem p w x y b c r s k)
        | inr k ↦ painted_off q w x y b c r s.columns h k ∙ painted_off p w x y a c r s.columns h k ∙ sym (painted_off p w x y b c r s.columns h k)
      ])

  pub painted_then : (pred : List ℕ) (c : List ℤ) (i : ℕ) → length pred ≡ 16
      → block_painted (painted p w x y pred) w x y (standing (painted p w x y pred) w x y) c i ≡ block_painted p w x y pred c i
  unfolding block_painted
  painted_then pred c i l = rw (standing_painted pred l) (painted_over pred (summed_of pred (block_residual c i)))

-- ---- a square put into the plane, then painted over
module _ (p : List ℕ) (w x y m mode dc : ℕ) (e : Border) (cs : List ℤ) (s : BlockSides m) (t : Square (length p) w x y (4 * m)) where
  abbrev put : List ℕ
  put = rows_placed p w x y (4 * m) (large_at mode dc e) (4 * m)

  put_square : Square (length put) w x y (4 * m)
  put_square = rw (length_rows p w x y (4 * m) (large_at mode dc e) (4 * m)) t

  -- what is predicted for sub-block i stands there until it is painted
  stands : (i : ℕ) → i < m * m → stand_rule w x y m (blocks_painted (stand_rule w x y m) put w x y m cs i) i ≡ large_rule m mode dc e p i
  unfolding standing large_of
  stands i h = build_same 16 _ _ go
    where
      go : (k : ℕ) → k < 16 → sample_at (blocks_painted (stand_rule w x y m) put w x y m cs i) w (x + cell_column m i + k % 4) (y + cell_row m i + k / 4) ≡ large_at mode dc e (cell_row m i + k / 4) (cell_column m i + k % 4)
      go k l =
          let d = cell s h in
          blocks_yet (stand_rule w x y m) put w x y m cs i i (x + cell_column m i + k % 4) (y + cell_row m i + k / 4) s put_square (omega arith) h (omega (arith, d.inside, t.columns))
          (record { left = omega arith; right = omega arith; top = omega arith; bottom = omega arith })
          ∙ ap₂ (λ (a b : ℕ). sample_at put w a b) (add_assoc x (cell_column m i) (k % 4)) (add_assoc y (cell_row m i) (k / 4))
          ∙ rows_in p w x y (4 * m) (large_at mode dc e) (4 * m) (cell_row m i + k / 4) (cell_column m i + k % 4) t.columns t.rows (omega (arith, d.above)) (omega (arith, d.inside))

  pub put_then : blocks_painted (stand_rule w x y m) put w x y m cs (m * m) ≡ blocks_painted (large_rule m mode dc e) p w x y m cs (m * m)
  put_then =
      ext_samples _ _ w (omega (arith, t.columns, sides_few s)) (length_blocks _ put w x y m cs (m * m) ∙ length_rows p w x y (4 * m) _ (4 * m) ∙ sym (length_blocks _ p w x y m cs (m * m)))
      (λ c r h. elim (covered x y c r s) [
        | inl k ↦
            blocks_in (stand_rule w x y m) put w x y m cs s put_square k.block c r k.among k.within (m * m) k.among (omega arith)
            ∙ ap (λ (pred : List ℕ). get_or (summed_of pred (block_residual cs k.block)) (4 * (r - (y + cell_row m k.block)) + (c - (x + cell_column m k.block))) 0) (stands k.block k.among)
            ∙ sym (blocks_in (large_rule m mode dc e) p w x y m cs s t k.block c r k.among k.within (m * m) k.among (omega arith))
        | inr k ↦
            blocks_off (stand_rule w x y m) put w x y m cs (m * m) c r s put_square (omega arith) h k
            ∙ rows_off p w x y (4 * m) (large_at mode dc e) (4 * m) c r t.columns h k
            ∙ sym (blocks_off (large_rule m mode dc e) p w x y m cs (m * m) c r s t (omega arith) h k)
      ])

pub small_at_long : (p : List ℕ) (w x y : ℕ) (last : Bool) (right : List ℕ) (mode : ℕ) → length (small_at p w x y last right mode) ≡ 16
unfolding small_at
small_at_long p w x y last right mode = small_long mode _

-- ---- a square in a large mode, put and then added
pub square_put : (p : List ℕ) (w x y n mode : ℕ) (cs : List ℤ) {q q' : List ℕ} → Size n → Square (length p) w x y n
    → q ≡ rows_placed p w x y n (large_at mode (dc_of n (edge_of p w x y n)) (edge_of p w x y n)) n
    → q' ≡ blocks_painted (stand_rule w x y (n / 4)) q w x y (n / 4) cs (n / 4 * (n / 4))
    → q' ≡ square_painted p w x y n false mode [] cs
square_put p w x y n mode cs {q} {q'} s t e f =
    let E = edge_of p w x y n in
    let m = n / 4 in
    let z = quarter s in
    let e' : q ≡ rows_placed p w x y (4 * m) (large_at mode (dc_of n E) E) (4 * m) = subst (λ (k : ℕ). q ≡ rows_placed p w x y k (large_at mode (dc_of n E) E) k) (sym z) e in
    f ∙ ap (λ (v : List ℕ). blocks_painted (stand_rule w x y m) v w x y m cs (m * m)) e'
    ∙ put_then p w x y m mode (dc_of n E) E cs (size_sides s) (subst (Square (length p) w x y) (sym z) t)
    ∙ square_large p w x y n false mode [] cs refl refl refl

-- ---- zeros leave room
zeros_near : Each (negsuc 32512) (pos 32512) (replicate 256 (pos 0))
zeros_near = record { at = λ k. rw (get_or_constant 256 k (pos 0)) (numeral_in (pos 0) tt) }

-- ---- numbers joined, turn by turn
-- two joined bit by bit are 0 where both are
or_none : (a b : ℕ) → bit_or a b ≡ 0 → (a ≡ 0) × (b ≡ 0)
or_none a b e = (omega (arith, or_add_and a b, and_le_r a b, e), omega (arith, or_add_and a b, and_le_l a b, e))

pub joined_zero : (a b : ℤ) → SFits w16 a → SFits w16 b → to_z w16 (bit_or (of_z w16 a) (of_z w16 b)) ≡ pos 0 → (a ≡ pos 0) × (b ≡ pos 0)
joined_zero a b f g e =
    let h = or_none (of_z w16 a) (of_z w16 b) (to_z_inj {w = w16} (record { fits = or_lt 16 (of_z w16 a) (of_z w16 b) (Fits-of_z {w = w16} {z = a} f).fits (Fits-of_z {w = w16} {z = b} g).fits }) (record { fits = lit< tt }) e) in
    let z : SFits w16 (pos 0) = record { sfits = lit< tt } in
    (same_bits w16 f z h.0, same_bits w16 g z h.1)

module _ {c : List ℤ} {from : ℕ} {before : List ℤ} where
  pub joined_none : length before ≡ 8 → Joined c from before before 0
  joined_none l = record { long = l; none = λ j h. absurd (omega arith); fit = λ j h. absurd (omega arith); yet = λ j h. refl }

  pub joined_next : {some : List ℤ} {i : ℕ} {v : ℤ} → i < 8 → Fits16 (get_or c (from + i) (pos 0)) → (v ≡ pos 0 → (get_or some i (pos 0) ≡ pos 0) × (get_or c (from + i) (pos 0) ≡ pos 0))
      → Joined c from before some i → Joined c from before (set some i v) (i + 1)
  joined_next {some} {i} {v} h f z g = record {
    long = length-set some i v ∙ g.long;
    none = λ j l e. elim (eq_or j i) [
      | inl q ↦
          let t = z (sym (get_or-set_same some i v (pos 0) (rw g.long h)) ∙ ap (λ (k : ℕ). get_or (set some i v) k (pos 0)) (sym q) ∙ e) in
          rw q (sym (g.yet i (omega arith)) ∙ t.0, t.1)
      | inr q ↦ g.none j (omega arith) (sym (get_or-set_other some i j v (pos 0) q) ∙ e)
    ];
    fit = below_next (λ j. Fits16 (get_or c (from + j) (pos 0))) i f g.fit;
    yet = λ j l. get_or-set_other some i j v (pos 0) (λ q. omega arith) ∙ g.yet j (omega arith);
  }

module _ {c : List ℤ} {n first : ℕ} where
  pub looked_none : {some : List ℤ} → length some ≡ 8 → Looked c n first some 1
  looked_none l = record { long = l; none = λ i h j a b. absurd (omega arith); fit = λ i h j a b. absurd (omega arith) }

  pub looked_next : {some some' : List ℤ} {k : ℕ} → Joined c (n * k + first) some some' 8 → Looked c n first some k → Looked c n first some' (k + 1)
  looked_next {some} {some'} {k} q g = record {
    long = q.long;
    none = λ i h j a b e.
        below_next (λ j. 0 < j → lane_at n c (first + i) j ≡ pos 0) k
        (λ z. ap (λ (m : ℕ). get_or c m (pos 0)) (sym (add_assoc (n * k) first i)) ∙ (q.none i h e).1) (λ j b a. g.none i h j a b (q.none i h e).0) j b a;
    fit = λ i h j a b.
        below_next (λ j. 0 < j → Fits16 (lane_at n c (first + i) j)) k
        (λ z. subst (λ (m : ℕ). Fits16 (get_or c m (pos 0))) (add_assoc (n * k) first i) (q.fit i h)) (λ j b a. g.fit i h j a b) j b a;
  }

module _ {before : List Bool} {first : ℕ} {some : List ℤ} where
  pub marked_none : length before ≡ 16 → Marked before first some before 0
  marked_none l = record { long = l; plain = λ j h. absurd (omega arith); kept = λ j h. refl }

  pub marked_next : {coded : List Bool} {i : ℕ} {b : Bool} → first + i < 16 → (b ≡ false → get_or some i (pos 0) ≡ pos 0)
      → Marked before first some coded i → Marked before first some (set coded (first + i) b) (i + 1)
  marked_next {coded} {i} {b} h f g = record {
    long = length-set coded (first + i) b ∙ g.long;
    plain = λ j l e. elim (eq_or j i) [
      | inl q ↦ rw q (f (sym (get_or-set_same coded (first + i) b false (rw g.long h)) ∙ ap (λ (k : ℕ). get_or (set coded (first + i) b) (first + k) false) (sym q) ∙ e))
      | inr q ↦ g.plain j (omega arith) (sym (get_or-set_other coded (first + i) (first + j) b false (λ z. q (omega arith))) ∙ e)
    ];
    kept = λ j l. get_or-set_other coded (first + i) j b false (λ z. omega arith) ∙ g.kept j l;
  }

module _ {c : List ℤ} {n : ℕ} where
  pub coded_none : {coded : List Bool} → length coded ≡ 16 → Coded c n coded 0
  coded_none l = record { long = l; plain = λ i h. absurd (omega arith); fit = λ i h. absurd (omega arith) }

  pub coded_next : (h : ℕ) {coded coded' : List Bool} {some : List ℤ} → Looked c n (8 * h) some 16 → Marked coded (8 * h) some coded' 8 → Coded c n coded (8 * h) → Coded c n coded' (8 * (h + 1))
  coded_next h {coded} {coded'} {some} q m g = record {
    long = m.long;
    plain = λ i l e k a b. elim (lt_or i (8 * h)) [
      | inl z ↦ g.plain i z (sym (m.kept i z) ∙ e) k a b
      | inr z ↦
          let o : 8 * h + (i - 8 * h) ≡ i = omega arith in
          rw (sym o) (q.none (i - 8 * h) (omega arith) k a b (m.plain (i - 8 * h) (omega arith) (ap (λ (j : ℕ). get_or coded' j false) o ∙ e)))
    ];
    fit = λ i l k a b. elim (lt_or i (8 * h)) [
      | inl z ↦ g.fit i z k a b
      | inr z ↦ let o : 8 * h + (i - 8 * h) ≡ i = omega arith in subst (λ (j : ℕ). Fits16 (lane_at n c j k)) o (q.fit (i - 8 * h) (omega arith) k a b)
    ];
  }

-- ---- the coefficients of a square of n by n, of blocks by lanes
pub fine_blocks : (n len from : ℕ) → blocks_fine_of n len from ≡ true → (known_length_of len ≡ true) × (16 * from + n * n ≤ len)
fine_blocks n len from e =
    let a = known_length_of len in
    let b = leb (16 * from + n * n) len in
    (both_left a b e, leb-true (16 * from + n * n) len (both_right a b e))

pub far_blocks : (n len from : ℕ) → 16 < from → false ≡ blocks_fine_of n len from
far_blocks n len from h = not_so (blocks_fine_of n len from) (λ e. let f = fine_blocks n len from e in ⊎_elim (λ z. omega arith) (λ z. omega arith) (known_blocks len f.0))

module _ {n : ℕ} (from : ℕ) (c : List ℤ) (s : Size n) where
  module _ (f : blocks_fine_of n (length c) from ≡ true) where
    pub square_room : (length c ≡ 16 * (length c / 16)) × (from + n / 4 * (n / 4) ≤ length c / 16) × (length c / 16 ≤ 16) × (8 * (length c / 16 / 8) ≡ length c / 16) × (0 < length c / 16)
    square_room =
        let g = fine_blocks n (length c) from f in
        let w = whole_blocks (known_blocks (length c) g.0) in
        (sym w.0, omega (arith, g.1, w.0, size_blocks s), w.1, ⊎_elim (λ e. omega arith) (λ e. omega arith) (known_blocks (length c) g.0), ⊎_elim (λ e. omega arith) (λ e. omega arith) (known_blocks (length c) g.0))

    -- sixteen blocks are all that there are
    pub square_all : n ≡ 16 → from ≡ 0
    square_all e = let m : n / 4 ≡ 4 = omega arith in omega (arith, square_room.1, square_room.2, ap₂ ◌*◌ m m)

    square_is : square_blocks n from c ≡ take (n * n) (drop (16 * from) (by_blocks (length c / 16) c))
    unfolding square_blocks
    square_is = rw (fine_blocks n (length c) from f).0

    pub length_square_blocks : length (square_blocks n from c) ≡ n * n
    length_square_blocks =
        let b = by_blocks (length c / 16) c in
        ap length square_is ∙ length-take-le (n * n) (drop (16 * from) b) (omega (arith, length-drop (16 * from) b, length_by_blocks (length c / 16) c, square_room.0, (fine_blocks n (length c) from f).1))

    module _ (i k : ℕ) (h : i < n / 4 * (n / 4)) (g : k < 16) where
      square_block : get_or (square_blocks n from c) (16 * i + k) (pos 0) ≡ get_or (by_blocks (length c / 16) c) (16 * (from + i) + k) (pos 0)
      square_block =
          let b = by_blocks (length c / 16) c in
          let z : 16 * from + (16 * i + k) ≡ 16 * (from + i) + k = omega arith in
          ap (λ (l : List ℤ). get_or l (16 * i + k) (pos 0)) square_is ∙ get_or-take (n * n) (drop (16 * from) b) (16 * i + k) (pos 0) (omega (arith, size_blocks s))
          ∙ get_or-drop (16 * from) b (16 * i + k) (pos 0) ∙ ap (λ (j : ℕ). get_or b j (pos 0)) z

      square_lane : get_or (square_blocks n from c) (16 * i + k) (pos 0) ≡ lane_at (length c / 16) c (from + i) k
      square_lane = square_block ∙ blocks_at (length c / 16) c (from + i) k (omega (arith, square_room.1)) g

    -- each coefficient was looked at, so each fits
    pub square_fits : {coded : List Bool} → Coded c (length c / 16) coded (length c / 16) → FirstFit c from (n / 4 * (n / 4)) → coefficients_fine n (square_blocks n from c) ≡ true
    unfolding coefficients_fine
    square_fits d e =
        both_true (eq-eqb (length (square_blocks n from c)) (n * n) length_square_blocks)
        (below_all _ (length (square_blocks n from c)) (λ p h. in_range (at p (omega (arith, length_square_blocks, size_blocks s)))))
      where
        at : (p : ℕ) → p < 16 * (n / 4 * (n / 4)) → Fits16 (get_or (square_blocks n from c) p (pos 0))
        at p h =
            let i = p / 16 in
            let z : 16 * i + p % 16 ≡ p = omega arith in
            subst (λ (j : ℕ). Fits16 (get_or (square_blocks n from c) j (pos 0))) z
            (elim (eq_or (p % 16) 0) [
              | inl q ↦
                  subst Fits16 (sym (square_lane i (p % 16) (omega arith) (omega arith) ∙ ap (λ (j : ℕ). get_or c j (pos 0)) (ap (λ (k : ℕ). length c / 16 * k + (from + i)) q ∙ ap (λ (k : ℕ). k + (from + i)) (mul-zero (length c / 16)) ∙ zero-add (from + i))))
                  (e i (omega arith))
              | inr q ↦ subst Fits16 (sym (square_lane i (p % 16) (omega arith) (omega arith))) (d.fit (from + i) (omega (arith, square_room.1)) (p % 16) (omega arith) (omega arith))
            ])

    -- what stands ready, by what is known of the residuals: `lane` is asked where one is coded
    pub square_ready : (coded : List Bool) {v : List ℤ} → Coded c (length c / 16) coded (length c / 16) → Each (negsuc 32512) (pos 32512) v
        → ((i k : ℕ) → i < length c / 16 → k < 16 → get_or coded i false ≡ true → get_or v (row_place i k) (pos 0) ≡ lane_residual (length c / 16) c i k)
        → Ready c from (square_blocks n from c) coded v (n / 4 * (n / 4))
    unfolding block_residual
    square_ready coded d e r =
        let N = length c / 16 in
        let S = square_blocks n from c in
        let m = square_room in
        let b : (i : ℕ) → i < n / 4 * (n / 4) → 16 * i + 16 ≤ length S = λ i h. omega (arith, length_square_blocks, size_blocks s) in
        record {
          few = omega arith;
          room = omega arith;
          long = omega (arith, length_square_blocks, size_blocks s);
          first = λ i h.
              ap (λ (j : ℕ). get_or c j (pos 0)) (sym (ap (λ (k : ℕ). k + (from + i)) (mul-zero N) ∙ zero-add (from + i))) ∙ sym (square_lane i 0 h (omega arith)) ∙ ap (λ (j : ℕ). get_or S j (pos 0)) (add-zero (16 * i));
          near = e;
          plain = λ i h q k a b. square_lane i k h b ∙ d.plain (from + i) (omega arith) q k a b;
          lane = λ i k h g q.
              r (from + i) k (omega arith) g q
              ∙ ap (λ (x : List ℤ). short_residual (get_or (samples_of false x) k (pos 0)))
              (sym (block_is (by_blocks N c) (from + i) (length_block S i (b i h)) (λ k l. block_at S i (b i h) k (pos 0) l ∙ square_block i k h l)));
        }

    -- the residuals of all, or none where no block is coded
    pub ready_turned : (coded : List Bool) {before v v' : List ℤ} {b : Bool} → Coded c (length c / 16) coded (length c / 16) → before ≡ replicate 256 (pos 0) → record { fit = b; values = v } ≡ residuals_of c before
        → v' ≡ v → Ready c from (square_blocks n from c) coded v' (n / 4 * (n / 4))
    ready_turned coded {before} d z e y =
        let k = (fine_blocks n (length c) from f).0 in
        rw y
        (square_ready coded d (residuals_in c before e k (rw z zeros_near))
        (λ i j h g q. residuals_at c before e k (ap length z ∙ length-replicate 256 (pos 0)) i j h g))

    pub ready_plain : (coded : List Bool) {v : List ℤ} → Coded c (length c / 16) coded (length c / 16) → v ≡ replicate 256 (pos 0) → NoneBelow coded 16
        → Ready c from (square_blocks n from c) coded v (n / 4 * (n / 4))
    ready_plain coded d z e = square_ready coded d (rw z zeros_near) (λ i j h g q. absurd (never q (e i (omega (arith, square_room.2)))))

  -- too few blocks, or too many
  pub unfit : blocks_fine_of n (length c) from ≡ false → coefficients_fine n (square_blocks n from c) ≡ false
  unfolding coefficients_fine square_blocks
  unfit e = rw (ne_eqb (length (square_blocks n from c)) (n * n) (λ q. omega (arith, short (known_length_of (length c)) refl e, q)))
    where
      short : (b : Bool) → known_length_of (length c) ≡ b → blocks_fine_of n (length c) from ≡ false → length (square_blocks n from c) < n * n
      short true k e =
          let b = by_blocks (length c / 16) c in
          let d = drop (16 * from) b in
          let l : length c < 16 * from + n * n = leb-false (16 * from + n * n) (length c) (rw k at e) in
          rw k (omega (arith, length-take (n * n) d, length-drop (16 * from) b, length_by_blocks (length c / 16) c, (whole_blocks (known_blocks (length c) k)).0, by_size (λ (n : ℕ). 0 < n * n) (omega arith) (omega arith) s))
      short false k e = rw k (by_size (λ (n : ℕ). 0 < n * n) (omega arith) (omega arith) s)
