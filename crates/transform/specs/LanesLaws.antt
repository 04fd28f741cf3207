-- What the proofs and callers cite of blocks by lanes and of their residuals.
use Rattle.std.specs.Prelude.{◌+◌, ◌-◌, ◌*◌, ◌/◌, ◌%◌, ◌≤◌, ◌<◌, ◌≡◌, ◌&&◌, ◌∷◌, ◌++◌}
use Rattle.numbers.specs.Words.{ℕ, add-one, mul_comm, arith, digits_div, digits_lt, digits_mod, refl, sym, ◌∙◌, ap, ap₂, Bool, true, false, inl, inr, ⊎_elim, lt_or, eq_or, eqb-true, ne_eqb, List, [], length, get_or, take, drop, replicate, get_or-append, get_or-eq_default, length-append, length-drop, take-append-drop, drop_at, get_or-append-add, get_or-drop, get_or-take, length-take-le, take_at, ◌∷≡◌, length_build, build_listed, get_or_build, built, build_same, get_or_constant, stored_at, stored_none, stored_in, stored_keeps, stored_more, stored_same, all_below, all_below_lem, ℤ, pos, negsuc, le_z, In, Each, clamp_same, signed_in}
use Rattle.transform.specs.Transform.{Grid, at, cell, grid_of, vertical_pass, horizontal_pass, result_of, results_of, samples_of}
use Rattle.transform.specs.TransformBounds.{numeral_in}
use Rattle.transform.specs.TransformLaws.{CoefficientsIn, range_in, SmallIn, small_samples_in}
use Rattle.transform.specs.Pieces.{is_small, lane_of, lane_row, turned_at, alone_at, Blocks}
use Rattle.transform.specs.Lanes.{by_lanes, by_blocks, macroblock_lanes, macroblock_blocks, block_numbers, known_length_of, short_residual, lane_residual, row_place, turned_to, Residuals, residuals_of}

-- ---- blocks one after the other, and by lanes
pub length_by_lanes : (n : ℕ) (c : List ℤ) → length (by_lanes n c) ≡ 16 * n
unfolding by_lanes
length_by_lanes n c = length_build (16 * n) _

pub length_by_blocks : (n : ℕ) (l : List ℤ) → length (by_blocks n l) ≡ 16 * n
unfolding by_blocks
length_by_blocks n l = length_build (16 * n) _

-- number k of block i of n
pub lane_below : (n i k : ℕ) → i < n → k < 16 → n * k + i < 16 * n
lane_below n i k h g = omega (arith, digits_lt {q = k} {m = 16} {r = i} {c = n} g h, mul_comm n k)

pub lanes_at : (n : ℕ) (c : List ℤ) (i k : ℕ) → i < n → k < 16 → get_or (by_lanes n c) (n * k + i) (pos 0) ≡ get_or c (16 * i + k) (pos 0)
unfolding by_lanes
lanes_at n c i k h g =
    get_or_build (16 * n) _ (n * k + i) (pos 0) (lane_below n i k h g)
    ∙ ap₂ (λ (a b : ℕ). get_or c (16 * a + b) (pos 0)) (ap (λ (x : ℕ). (x + i) % n) (mul_comm n k) ∙ digits_mod k h) (ap (λ (x : ℕ). (x + i) / n) (mul_comm n k) ∙ digits_div k h)

pub blocks_at : (n : ℕ) (l : List ℤ) (i k : ℕ) → i < n → k < 16 → get_or (by_blocks n l) (16 * i + k) (pos 0) ≡ get_or l (n * k + i) (pos 0)
unfolding by_blocks
blocks_at n l i k h g =
    let m : (16 * i + k) % 16 ≡ k = omega arith in
    let d : (16 * i + k) / 16 ≡ i = omega arith in
    get_or_build (16 * n) _ (16 * i + k) (pos 0) (omega arith) ∙ ap₂ (λ (a b : ℕ). get_or l (n * a + b) (pos 0)) m d

pub blocks_of_lanes : (n : ℕ) (c : List ℤ) → 0 < n → length c ≡ 16 * n → by_blocks n (by_lanes n c) ≡ c
unfolding by_blocks
blocks_of_lanes n c h e =
    sym (built c (16 * n) _ (pos 0) e (λ p l.
    let z : p ≡ 16 * (p / 16) + p % 16 = omega arith in
    ap (λ (j : ℕ). get_or c j (pos 0)) z ∙ sym (lanes_at n c (p / 16) (p % 16) (omega arith) (omega arith))))

-- a macroblock's 24 blocks: those of luma, and those of chroma
pub squares_luma : (c : List ℤ) → take 256 (macroblock_lanes c) ≡ by_lanes 16 (take 256 c)
unfolding macroblock_lanes
squares_luma c = take_at (by_lanes 16 (take 256 c)) (by_lanes 8 (drop 256 c)) 256 (length_by_lanes 16 (take 256 c))

pub squares_chroma : (c : List ℤ) → drop 256 (macroblock_lanes c) ≡ by_lanes 8 (drop 256 c)
unfolding macroblock_lanes
squares_chroma c = drop_at (by_lanes 16 (take 256 c)) (by_lanes 8 (drop 256 c)) 256 (length_by_lanes 16 (take 256 c))

pub length_squares : (c : List ℤ) → length (macroblock_lanes c) ≡ 384
unfolding macroblock_lanes
length_squares c =
    length-append (by_lanes 16 (take 256 c)) (by_lanes 8 (drop 256 c)) ∙ ap₂ ◌+◌ (length_by_lanes 16 (take 256 c)) (length_by_lanes 8 (drop 256 c))

-- a number by its place
lanes_number : (n : ℕ) (c : List ℤ) (p : ℕ) → p < 16 * n → get_or (by_lanes n c) p (pos 0) ≡ get_or c (16 * (p % n) + p / n) (pos 0)
unfolding by_lanes
lanes_number n c p h = get_or_build (16 * n) (λ p. get_or c (16 * (p % n) + p / n) (pos 0)) p (pos 0) h

-- a macroblock's there and back
pub blocks_of_squares : (c : List ℤ) → length c ≡ 384 → macroblock_blocks (macroblock_lanes c) ≡ c
unfolding macroblock_blocks
blocks_of_squares c e =
    ap₂ (λ (a b : List ℤ). by_blocks 16 a ++ by_blocks 8 b) (squares_luma c) (squares_chroma c)
    ∙ ap₂ (λ (a b : List ℤ). a ++ b) (blocks_of_lanes 16 (take 256 c) (omega arith) (length-take-le 256 c (omega arith))) (blocks_of_lanes 8 (drop 256 c) (omega arith) (omega (arith, length-drop 256 c)))
    ∙ take-append-drop 256 c

-- block after block: those of luma, and those of chroma
pub blocks_luma : (l : List ℤ) → take 256 (macroblock_blocks l) ≡ by_blocks 16 (take 256 l)
unfolding macroblock_blocks
blocks_luma l = take_at (by_blocks 16 (take 256 l)) (by_blocks 8 (drop 256 l)) 256 (length_by_blocks 16 (take 256 l))

pub blocks_chroma : (l : List ℤ) → drop 256 (macroblock_blocks l) ≡ by_blocks 8 (drop 256 l)
unfolding macroblock_blocks
blocks_chroma l = drop_at (by_blocks 16 (take 256 l)) (by_blocks 8 (drop 256 l)) 256 (length_by_blocks 16 (take 256 l))

-- a number of luma, and one of chroma, by its place
pub luma_number : (c : List ℤ) (p : ℕ) → p < 256 → get_or (macroblock_lanes c) p (pos 0) ≡ get_or c (16 * (p % 16) + p / 16) (pos 0)
unfolding macroblock_lanes
luma_number c p h =
    let x : List ℤ = by_lanes 16 (take 256 c) in
    get_or-append x (by_lanes 8 (drop 256 c)) (pos 0) p (omega (arith, length_by_lanes 16 (take 256 c)))
    ∙ lanes_number 16 (take 256 c) p (omega arith) ∙ get_or-take 256 c (16 * (p % 16) + p / 16) (pos 0) (omega arith)

pub chroma_number : (c : List ℤ) (p : ℕ) → p < 128 → get_or (macroblock_lanes c) (256 + p) (pos 0) ≡ get_or c (256 + (16 * (p % 8) + p / 8)) (pos 0)
unfolding macroblock_lanes
chroma_number c p h =
    let x : List ℤ = by_lanes 16 (take 256 c) in
    let y : List ℤ = by_lanes 8 (drop 256 c) in
    ap (λ (n : ℕ). get_or (x ++ y) (n + p) (pos 0)) (sym (length_by_lanes 16 (take 256 c)))
    ∙ get_or-append-add x y p (pos 0) ∙ lanes_number 8 (drop 256 c) p (omega arith) ∙ get_or-drop 256 c (16 * (p % 8) + p / 8) (pos 0)

-- a list that has the numbers of luma and of chroma where they belong
pub squares_are : (c : List ℤ) {l : List ℤ} → length l ≡ 384 → ((p : ℕ) → p < 256 → get_or l p (pos 0) ≡ get_or c (16 * (p % 16) + p / 16) (pos 0))
    → ((p : ℕ) → p < 128 → get_or l (256 + p) (pos 0) ≡ get_or c (256 + (16 * (p % 8) + p / 8)) (pos 0)) → l ≡ macroblock_lanes c
squares_are c {l} e f g =
    built l 384 (λ p. get_or (macroblock_lanes c) p (pos 0)) (pos 0) e at
    ∙ sym (built (macroblock_lanes c) 384 (λ p. get_or (macroblock_lanes c) p (pos 0)) (pos 0) (length_squares c) (λ p h. refl))
  where
    at : (p : ℕ) → p < 384 → get_or l p (pos 0) ≡ get_or (macroblock_lanes c) p (pos 0)
    at p h = elim (lt_or p 256) [
      | inl a ↦ f p a ∙ sym (luma_number c p a)
      | inr a ↦ let q : p ≡ 256 + (p - 256) = omega arith in rw q (g (p - 256) (omega arith) ∙ sym (chroma_number c (p - 256) (omega arith)))
    ]

-- zeros are zeros
pub squares_zeros : {l c : List ℤ} → l ≡ replicate 384 (pos 0) → c ≡ replicate 384 (pos 0) → l ≡ macroblock_lanes c
squares_zeros e f =
    rw (e, f)
    (squares_are (replicate 384 (pos 0)) refl
    (λ p h. get_or_constant 384 p (pos 0) ∙ sym (get_or_constant 384 (16 * (p % 16) + p / 16) (pos 0)))
    (λ p h. get_or_constant 384 (256 + p) (pos 0) ∙ sym (get_or_constant 384 (256 + (16 * (p % 8) + p / 8)) (pos 0))))

pub block_lane : (n : ℕ) (c : List ℤ) (i : ℕ) → i < n → block_numbers (by_blocks n c) i ≡ lane_of n c i
unfolding block_numbers lane_of
block_lane n c i h = build_same 16 _ _ (λ k g. blocks_at n c i k h g)

-- a list that has the numbers of block i of blocks one after the other
pub block_is : (c : List ℤ) (i : ℕ) {l : List ℤ} → length l ≡ 16 → ((k : ℕ) → k < 16 → at l k ≡ at c (16 * i + k)) → l ≡ block_numbers c i
unfolding block_numbers
block_is c i {l} e h = built l 16 _ (pos 0) e h

-- ---- a block's rows
pub lane_rows : (n : ℕ) (t : List ℤ) (i : ℕ) {a b c d : List ℤ}
    → a ≡ lane_row n t i → b ≡ lane_row n t (i + 4 * n) → c ≡ lane_row n t (i + 8 * n) → d ≡ lane_row n t (i + 12 * n)
    → a ∷ b ∷ c ∷ d ∷ [] ≡ grid_of (lane_of n t i)
unfolding grid_of lane_of
lane_rows n t i e f g h =
    rw (e, f, g, h, build_listed 16 (λ k. at t (n * k + i)))
    (row 0 i (omega arith) ∷≡ row 4 (i + 4 * n) (omega arith) ∷≡ row 8 (i + 8 * n) (omega arith) ∷≡ row 12 (i + 12 * n) (omega arith) ∷≡ refl)
  where
    row : (k m : ℕ) → m ≡ n * k + i → lane_row n t m ≡ at t (n * k + i) ∷ at t (n * (k + 1) + i) ∷ at t (n * (k + 2) + i) ∷ at t (n * (k + 3) + i) ∷ []
    row k m q = ap (at t) (omega arith) ∷≡ ap (at t) (omega arith) ∷≡ ap (at t) (omega arith) ∷≡ ap (at t) (omega arith) ∷≡ refl

-- ---- blocks put into their places one after the other
module _ (f : ℕ → ℕ → ℤ) (t : List ℤ) where
  pub turned_none : turned_to f t 0 ≡ t
  unfolding turned_to
  turned_none = stored_none t _ _

  pub turned_next : (i : ℕ) {q : List ℤ} → q ≡ turned_to f t i → stored_at q (row_place i) (f i) 16 ≡ turned_to f t (i + 1)
  unfolding turned_to
  turned_next i e =
      let d : (k : ℕ) → k < 16 → i ≡ (16 * i + k) / 16 = λ k h. omega arith in
      let m : (k : ℕ) → k < 16 → k ≡ (16 * i + k) % 16 = λ k h. omega arith in
      let n : 16 * i + 16 ≡ 16 * (i + 1) = omega arith in
      ap (λ (q : List ℤ). stored_at q (row_place i) (f i) 16) e
      ∙ stored_same (turned_to f t i) (row_place i) (λ k. row_place ((16 * i + k) / 16) ((16 * i + k) % 16)) (f i) (λ k. f ((16 * i + k) / 16) ((16 * i + k) % 16)) 16 (λ k h. (ap₂ row_place (d k h) (m k h), ap₂ f (d k h) (m k h)))
      ∙ stored_more t (λ p. row_place (p / 16) (p % 16)) (λ p. f (p / 16) (p % 16)) (16 * i) 16
      ∙ ap (stored_at t (λ p. row_place (p / 16) (p % 16)) (λ p. f (p / 16) (p % 16))) n

-- a place belongs to one number of one block
place_digits : (a i c : ℕ) → i < 16 → c < 4 → ((64 * a + 4 * i + c) / 64 ≡ a) × ((64 * a + 4 * i + c) % 64 / 4 ≡ i) × ((64 * a + 4 * i + c) % 4 ≡ c)
place_digits a i c h g = (omega arith, omega arith, omega arith)

place_one : (p : ℕ) → p < 256 → let r = row_place (p / 16) (p % 16) in (r < 256) × (16 * (r % 64 / 4) + (4 * (r / 64) + r % 4) ≡ p)
place_one p h =
    let d = place_digits (p % 16 / 4) (p / 16) (p % 16 % 4) (omega arith) (omega arith) in
    (omega arith, rw (d.0, d.1, d.2) (omega arith))

-- one more, stage by stage
pub turned_stages : (n : ℕ) (c t : List ℤ) (i : ℕ) {q : List ℤ} {g v h : Grid} → q ≡ turned_to (turned_at n c) t i → g ≡ grid_of (lane_of n c i) → v ≡ vertical_pass false g → h ≡ horizontal_pass false v
    → stored_at q (row_place i) (λ k. result_of false (cell h (k / 4) (k % 4))) 16 ≡ turned_to (turned_at n c) t (i + 1)
unfolding samples_of results_of
turned_stages n c t i {q} d e f g =
    rw (g, f, e) (stored_same q (row_place i) (row_place i) _ (turned_at n c i) 16 (λ k l. (refl, sym (get_or_build 16 _ k (pos 0) l)))) ∙ turned_next (turned_at n c) t i d

-- ---- the test of all coefficients
abbrev pub each_small_of : List ℤ → Bool
each_small_of c = all_below (length c) (λ k. is_small (at c k))

-- one more
pub within_next : (l h : ℤ) (c : List ℤ) (n : ℕ) {x : ℤ} {f : Bool} → x ≡ at c n → f ≡ all_below n (λ i. le_z l (at c i) && le_z (at c i) h)
    → (le_z l x && le_z x h) && f ≡ all_below (n + 1) (λ i. le_z l (at c i) && le_z (at c i) h)
within_next l h c n e g = rw (e, g, add-one)

pub each_within : (l h : ℤ) → In l h (pos 0) → (c : List ℤ) → all_below (length c) (λ k. le_z l (at c k) && le_z (at c k) h) ≡ true → Each l h c
each_within l h z c e = record { at = go }
  where
    go : (k : ℕ) → In l h (at c k)
    go k = elim (lt_or k (length c)) [
      | inl p ↦ range_in l h (at c k) (all_below_lem (λ i. le_z l (at c i) && le_z (at c i) h) (length c) e k p)
      | inr p ↦ rw (get_or-eq_default c (pos 0) p) z
    ]

pub each_small_lem : (c : List ℤ) → each_small_of c ≡ true → Each (negsuc 2047) (pos 2047) c
each_small_lem c = each_within (negsuc 2047) (pos 2047) (numeral_in (pos 0) tt) c

pub lane_small : (n : ℕ) {c : List ℤ} (i : ℕ) → Each (negsuc 2047) (pos 2047) c → SmallIn (lane_of n c i)
unfolding lane_of
lane_small n {c} i e = record { small = λ k l. rw (get_or_build 16 (λ j. at c (n * j + i)) k (pos 0) l) (e.at (n * k + i)) }

-- what was read of a block fits
pub lane_fits : (n : ℕ) (c : List ℤ) (i : ℕ) → ((k : ℕ) → k < 16 → In (negsuc 32767) (pos 32767) (at c (n * k + i))) → CoefficientsIn (lane_of n c i)
unfolding lane_of
lane_fits n c i e = record { fit = λ k l. rw (get_or_build 16 (λ j. at c (n * j + i)) k (pos 0) l) (e k l) }

pub known_blocks : (n : ℕ) → known_length_of n ≡ true → Blocks n
known_blocks n e = elim (eq_or n 128) [
  | inl h ↦ inl h
  | inr h ↦ inr (eqb-true n 256 (rw (ne_eqb n 128 h) at e))
]

pub whole_blocks : {n : ℕ} → Blocks n → (16 * (n / 16) ≡ n) × (n / 16 ≤ 16)
whole_blocks b = ⊎_elim (λ e. (omega arith, omega arith)) (λ e. (omega arith, omega arith)) b

-- ---- what the public call leaves
module _ (c before : List ℤ) where
  pub refused_length : known_length_of (length c) ≡ false → record { fit = false; values = before } ≡ residuals_of c before
  unfolding residuals_of
  refused_length e = rw e

  module _ (d : known_length_of (length c) ≡ true) where
    -- two rules that agree on every block
    same : {f g : ℕ → ℕ → ℤ} → ((i k : ℕ) → i < length c / 16 → f i k ≡ g i k) → turned_to f before (length c / 16) ≡ turned_to g before (length c / 16)
    unfolding turned_to
    same h = stored_same before _ _ _ _ (16 * (length c / 16)) (λ p l. (refl, h (p / 16) (p % 16) (omega arith)))

    pub done_alone : {q : List ℤ} → q ≡ turned_to (alone_at (length c / 16) c) before (length c / 16) → record { fit = true; values = q } ≡ residuals_of c before
    unfolding residuals_of
    done_alone e =
        rw d
        (ap (λ (v : List ℤ). record { fit = true; values = v })
        (e ∙ same (λ i k l. ap (λ (x : List ℤ). short_residual (at (samples_of false x) k)) (sym (block_lane (length c / 16) c i l)))))

    -- small coefficients: every result leaves room
    pub done_together : each_small_of c ≡ true → {q : List ℤ} → q ≡ turned_to (turned_at (length c / 16) c) before (length c / 16) → record { fit = true; values = q } ≡ residuals_of c before
    done_together s e =
        done_alone (e ∙ same (λ i k l. sym (clamp_same ((small_samples_in (lane_small (length c / 16) i (each_small_lem c s))).at k))))

-- ---- what callers cite: of an answer and the values that it leaves
module _ (c before : List ℤ) {b : Bool} {v : List ℤ} (e : record { fit = b; values = v } ≡ residuals_of c before) (d : known_length_of (length c) ≡ true) where
  residuals_are : v ≡ turned_to (lane_residual (length c / 16) c) before (length c / 16)
  unfolding residuals_of
  residuals_are = ap (λ (r : Residuals). r.values) (rw d at e)

  -- number k of block i is its residual
  pub residuals_at : length before ≡ 256 → (i k : ℕ) → i < length c / 16 → k < 16 → at v (row_place i k) ≡ lane_residual (length c / 16) c i k
  unfolding turned_to
  residuals_at l i k h g =
      let few = (whole_blocks (known_blocks (length c) d)).1 in
      let p = 16 * i + k in
      let a : p / 16 ≡ i = omega arith in
      let b : p % 16 ≡ k = omega arith in
      let one : (q : ℕ) → q < 16 * (length c / 16) → (row_place (q / 16) (q % 16) < length before) × (row_place (p / 16) (p % 16) ≡ row_place (q / 16) (q % 16) → p ≡ q) =
      λ q m. (omega (arith, (place_one q (omega arith)).0), λ e. sym (place_one p (omega arith)).1 ∙ ap (λ (r : ℕ). 16 * (r % 64 / 4) + (4 * (r / 64) + r % 4)) e ∙ (place_one q (omega arith)).1) in
      ap (λ (x : List ℤ). at x (row_place i k)) residuals_are
      ∙ ap₂ (λ (j n : ℕ). at (turned_to (lane_residual (length c / 16) c) before (length c / 16)) (row_place j n)) (sym a) (sym b)
      ∙ stored_in before (λ p. row_place (p / 16) (p % 16)) (λ p. lane_residual (length c / 16) c (p / 16) (p % 16)) (16 * (length c / 16)) p (pos 0) one (omega arith)
      ∙ ap₂ (lane_residual (length c / 16) c) a b

  -- with room left, where those before them had it
  pub residuals_in : Each (negsuc 32512) (pos 32512) before → Each (negsuc 32512) (pos 32512) v
  unfolding turned_to
  residuals_in f =
      rw residuals_are
      (record { at = stored_keeps before _ _ (In (negsuc 32512) (pos 32512)) (16 * (length c / 16)) (pos 0) f.at (λ p. signed_in 32512 _) })
