-- How far deblocking can move a sample once all its edges are done: each position of each edge moves it by no more than the kernel's
-- bound there, and few edges reach it.
use Rattle.std.specs.Prelude.{◌+◌, ◌-◌, ◌*◌, ◌/◌, ◌%◌, ◌≤◌, ◌<◌, ◌≡◌, ◌⊎◌, ◌∷◌, ◌-ℤ◌}
use Rattle.numbers.specs.Words.{ℕ, zero, suc, add-mul, div-add-mod, div-add-mod', mod-lt, mul_comm, one-mul, arith, refl, sym, ◌∙◌, ap, ap₂, Bool, true, false, not, cond, inl, inr, eqb, leb, lt_or, eq_or, eq-eqb, leb-true, ne_eqb, List, [], length, get_or, get_or-eq_default, build, all_below, all_below_lem, pos, sub_parts_ℤ, nat_abs_parts}
use Rattle.filter.specs.Kernel.{apart}
use Rattle.filter.specs.KernelLaws.{Bytes}
use Rattle.filter.specs.Moves.{farthest}
use Rattle.filter.specs.MovesLaws.{moves_at_most}
use Rattle.filter.specs.declared.strengths.Strength.{Strength}
use Rattle.predict.specs.Predict.{Size}
use Rattle.planes.specs.Places.{Square, by_size, next_row}
use Rattle.deblock.specs.Deblock.{Edge, Change, turns, when, across_of, kept_of, position_of, sweep_of, vertical_edges, horizontal_edges, inner_at, inners_of, outer_edge, inner_edge_of, square_of, macroblock_edges, raster_of}
use Rattle.deblock.specs.Moves.{total, tap, line, reach_of, most}
use Rattle.deblock.specs.Located.{Upright, Level, PlaneGrid, size_eight, upright_in, level_in, square_left, square_top, square_upright, square_level, past_first, grid_square}
use Rattle.deblock.specs.DeblockLaws.{across_at, across_bytes, length_position, position_bytes, position_off, position_at, not_zero}

-- ---- two samples that lie no further apart than d
record Close (a b d : ℕ) : Type 0 where
  more : a ≤ b + d
  less : b ≤ a + d

close_apart : (a b d : ℕ) → apart (pos a) (pos b) ≤ d → Close a b d
close_apart a b d h =
    let n = nat_abs_parts (pos a -ℤ pos b) in
    let s = sub_parts_ℤ (pos a) (pos b) in
    record { more = omega arith; less = omega arith }

close_more : {a b d e : ℕ} → d ≤ e → Close a b d → Close a b e
close_more l c = record { more = omega (arith, c.more); less = omega (arith, c.less) }

-- ---- a change that moves the sample at i by at most d, in every plane of len bytes
record Kept (len i d : ℕ) (p q : List ℕ) : Type 0 where
  bytes : Bytes q
  long : length q ≡ len
  close : Close (get_or q i 0) (get_or p i 0) d

record Moves (len i d : ℕ) (f : Change) : Type 0 where
  at : (p : List ℕ) → Bytes p → length p ≡ len → Kept len i d p (f p)

module _ {len i : ℕ} where
  moves_none : Moves len i 0 (λ p. p)
  moves_none = record { at = λ p b l. record { bytes = b; long = l; close = record { more = omega arith; less = omega arith } } }

  moves_then : {d e : ℕ} {f g : Change} → Moves len i d f → Moves len i e g → Moves len i (d + e) (λ p. g (f p))
  moves_then {d} {e} {f} {g} h k = record { at = go }
    where
      go : (p : List ℕ) → Bytes p → length p ≡ len → Kept len i (d + e) p (g (f p))
      go p b l =
          let a = h.at p b l in
          let c = k.at (f p) a.bytes a.long in
          record { bytes = c.bytes; long = c.long; close = record { more = omega (arith, a.close.more, c.close.more); less = omega (arith, a.close.less, c.close.less) } }

  moves_more : {d e : ℕ} {f : Change} → d ≤ e → Moves len i d f → Moves len i e f
  moves_more {d} {e} {f} l h = record { at = λ p b n. let a = h.at p b n in record { bytes = a.bytes; long = a.long; close = close_more l a.close } }

  moves_turns : (f : ℕ → Change) (d : ℕ → ℕ) (n : ℕ) → ((k : ℕ) → k < n → Moves len i (d k) (f k)) → Moves len i (total n d) (turns f n)
  unfolding turns
  moves_turns f d zero h = moves_none
  moves_turns f d (suc n) h = moves_then (moves_turns f d n (λ k l. h k (omega arith))) (h n (omega arith))

  moves_when : (t : Bool) {d : ℕ} {f : Change} → (t ≡ true → Moves len i d f) → Moves len i d (when t f)
  unfolding when
  moves_when true h = h refl
  moves_when false h = moves_more (omega arith) moves_none

-- ---- one position
-- the sample at i is number k of those that lie `step` apart from `at` on
pub record Number (at step i n : ℕ) : Type 0 where
  pub k : ℕ
  pub below : k < n
  pub is : i ≡ at + k * step

abbrev pub NoNumber : ℕ → ℕ → ℕ → ℕ → Type 0
NoNumber at step i n = (k : ℕ) → k < n → i ≡ at + k * step → ⊥

pub number : (at step i n : ℕ) → Number at step i n ⊎ NoNumber at step i n
number at step i zero = inr (λ k h. absurd (omega arith))
number at step i (suc n) = elim (number at step i n) [
  | inl m ↦ inl (record { k = m.k; below = omega (arith, m.below); is = m.is })
  | inr none ↦ elim (eq_or i (at + n * step)) [
    | inl e ↦ inl (record { k = n; below = omega arith; is = e })
    | inr e ↦ inr (λ k h z. elim (lt_or k n) [ inl l ↦ none k l z | inr l ↦ e (rw (same k n h l) at z) ])
  ]
]
  where
    same : (k m : ℕ) → k < suc m → m ≤ k → k ≡ m
    same k m h l = omega arith

kept_close : (g : Edge) (e : List ℕ) (k : ℕ) → Bytes e → k < 8 → Close (get_or (kept_of g e) k 0) (get_or e k 0) (get_or (farthest g.simple g.outer) k 0)
unfolding kept_of
kept_close g e k b h = close_apart _ _ _ (moves_at_most e g.simple g.outer g.limit g.inner g.threshold k b h)

-- a position moves each of its eight samples by at most its bound, and no other
position_moves : {len : ℕ} (g : Edge) (at step i d : ℕ) → 0 < step → at + 7 * step < len
    → ((k : ℕ) → k < 8 → i ≡ at + k * step → get_or (farthest g.simple g.outer) k 0 ≤ d) → Moves len i d (position_of g at step)
position_moves {len} g at step i d some room most = record { at = λ p b l. record { bytes = position_bytes g at step p b; long = length_position g at step p ∙ l; close = go p b l } }
  where
    go : (p : List ℕ) → Bytes p → length p ≡ len → Close (get_or (position_of g at step p) i 0) (get_or p i 0) d
    go p b l = elim (number at step i 8) [
      | inl m ↦
          let c = kept_close g (across_of p at step) m.k (across_bytes p at step b) m.below in
          rw (m.is, position_at g at step p b some (rw l room) m.k m.below, ← across_at p at step m.k m.below) (close_more (most m.k m.below m.is) c)
      | inr none ↦ rw (position_off g at step p i none) (record { more = omega arith; less = omega arith })
    ]

-- ---- one edge: the sample in column x of row y
-- two places of a plane w wide are one only where row and column are
same_place : {q r a b : ℕ} (w : ℕ) → a < w → b < w → q * w + a ≡ r * w + b → (q ≡ r) × (a ≡ b)
same_place {q} {r} {a} {b} w h k e = elim (lt_or q r) [
  | inl l ↦ absurd (omega (arith, next_row q r w l))
  | inr l ↦ elim (lt_or r q) [
    | inl m ↦ absurd (omega (arith, next_row r q w m))
    | inr m ↦ let z : q ≡ r = omega arith in (z, omega (arith, ap (λ (n : ℕ). n * w) z))
  ]
]

-- t at one number, 0 at each other
abbrev only : ℕ → ℕ → ℕ → ℕ
only m t k = cond (eqb k m) t 0

only_at : (m t k : ℕ) → k ≡ m → only m t k ≡ t
only_at m t k e = rw (eq-eqb k m e)

only_off : (m t k : ℕ) → (k ≡ m → ⊥) → only m t k ≡ 0
only_off m t k e = rw (ne_eqb k m e)

total_off : (n : ℕ) (d : ℕ → ℕ) → ((k : ℕ) → k < n → d k ≡ 0) → total n d ≡ 0
total_off zero d h = refl
total_off (suc n) d h = omega (arith, total_off n d (λ k l. h k (omega arith)), h n (omega arith))

-- numbers that are all different are m at most once
total_only : (n : ℕ) (f : ℕ → ℕ) (m t : ℕ) → ((j k : ℕ) → f j ≡ f k → j ≡ k) → total n (λ k. only m t (f k)) ≤ t
total_only zero f m t u = omega arith
total_only (suc n) f m t u = elim (eq_or (f n) m) [
  | inl e ↦ omega (arith, only_at m t (f n) e, total_off n (λ k. only m t (f k)) (λ k l. only_off m t (f k) (λ z. less k l (u k n (z ∙ sym e)))))
  | inr e ↦ omega (arith, only_off m t (f n) e, total_only n f m t u)
]
  where
    less : (k : ℕ) → k < n → k ≡ n → ⊥
    less k l z = omega arith

-- macroblock r of a line, n wide, does not hold y where r is not y / n
elsewhere : (r y n : ℕ) → 0 < n → (r ≡ y / n → ⊥) → (y < r * n) ⊎ (r * n + n ≤ y)
elsewhere r y n some e =
    let d = div-add-mod y n in
    let m = mod-lt y {m = n} some in
    let c = mul_comm n (y / n) in
    elim (lt_or r (y / n)) [
      | inl l ↦ inr (omega (arith, next_row r (y / n) n l))
      | inr l ↦ elim (lt_or (y / n) r) [ inl k ↦ inl (omega (arith, next_row (y / n) r n k)) | inr k ↦ absurd (e (omega arith)) ]
    ]

-- the positions of an edge along macroblock r reach a sample of macroblock u / n once, and of another never
one_line : (n t r u : ℕ) → 0 < n → total n (λ i. only u t (r * n + i)) ≤ only (u / n) t r
one_line n t r u some = elim (eq_or r (u / n)) [
  | inl e ↦ omega (arith, only_at (u / n) t r e, total_only n (λ i. r * n + i) u t (λ j k z. omega arith))
  | inr e ↦ elim (elsewhere r u n some e) [
    | inl l ↦ omega (arith, total_off n (λ i. only u t (r * n + i)) (λ i h. only_off u t (r * n + i) (λ z. before i h l z)))
    | inr l ↦ omega (arith, total_off n (λ i. only u t (r * n + i)) (λ i h. only_off u t (r * n + i) (λ z. behind i h l z)))
  ]
]
  where
    before : (i : ℕ) → i < n → u < r * n → r * n + i ≡ u → ⊥
    before i h l z = omega arith

    behind : (i : ℕ) → i < n → r * n + n ≤ u → r * n + i ≡ u → ⊥
    behind i h l z = omega arith

tap_is : (g : Edge) (k u U : ℕ) → U - 4 + k ≡ u → 4 ≤ U → get_or (farthest g.simple g.outer) k 0 ≡ tap g.simple g.outer U u
tap_is g k u U e h = let z : k ≡ u + 4 - U = omega arith in ap (λ (m : ℕ). get_or (farthest g.simple g.outer) m 0) z

module _ (len w x y : ℕ) (within : x < w) (g : Edge) where
  module _ {X Y n : ℕ} where
    vertical_moves : Upright len w X Y n → Moves len (y * w + x) (total n (λ i. only y (tap g.simple g.outer X x) (Y + i))) (vertical_edges g w X Y n)
    unfolding vertical_edges sweep_of
    vertical_moves u = moves_turns _ _ n (λ i h. position_moves g (Y * w + X - 4 + i * w) 1 (y * w + x) _ (omega arith) (omega (arith, upright_in u i h)) (most i h))
      where
        most : (i : ℕ) → i < n → (k : ℕ) → k < 8 → y * w + x ≡ Y * w + X - 4 + i * w + k * 1 → get_or (farthest g.simple g.outer) k 0 ≤ only y (tap g.simple g.outer X x) (Y + i)
        most i h k l e =
            let s = same_place {q = Y + i} {r = y} {a = X - 4 + k} {b = x} w (omega (arith, u.left, u.right)) within (omega (arith, add-mul Y i w, u.left)) in
            omega (arith, only_at y (tap g.simple g.outer X x) (Y + i) s.0, tap_is g k x X s.1 u.left)

    horizontal_moves : Level len w X Y n → Moves len (y * w + x) (total n (λ i. only x (tap g.simple g.outer Y y) (X + i))) (horizontal_edges g w X Y n)
    unfolding horizontal_edges sweep_of
    horizontal_moves u = moves_turns _ _ n (λ i h. position_moves g ((Y - 4) * w + X + i * 1) w (y * w + x) _ u.some (omega (arith, level_in u i h)) (most i h))
      where
        most : (i : ℕ) → i < n → (k : ℕ) → k < 8 → y * w + x ≡ (Y - 4) * w + X + i * 1 + k * w → get_or (farthest g.simple g.outer) k 0 ≤ only x (tap g.simple g.outer Y y) (X + i)
        most i h k l e =
            let s = same_place {q = Y - 4 + k} {r = y} {a = X + i} {b = x} w (omega (arith, u.columns)) within (omega (arith, add-mul (Y - 4) k w)) in
            omega (arith, only_at x (tap g.simple g.outer Y y) (X + i) s.1, tap_is g k y Y s.0 u.above)

  -- an edge as long as a macroblock, by the macroblock that it belongs to
  vertical_by : {X n : ℕ} (r : ℕ) → 0 < n → Upright len w X (r * n) n → Moves len (y * w + x) (only (y / n) (tap g.simple g.outer X x) r) (vertical_edges g w X (r * n) n)
  vertical_by {X} {n} r some u = moves_more (one_line n _ r y some) (vertical_moves u)

  horizontal_by : {Y n : ℕ} (c : ℕ) → 0 < n → Level len w (c * n) Y n → Moves len (y * w + x) (only (x / n) (tap g.simple g.outer Y y) c) (horizontal_edges g w (c * n) Y n)
  horizontal_by {Y} {n} c some u = moves_more (one_line n _ c x some) (horizontal_moves u)

-- ---- sums of bounds
total_add : (n : ℕ) (d e : ℕ → ℕ) → total n (λ k. d k + e k) ≡ total n d + total n e
total_add zero d e = refl
total_add (suc n) d e = omega (arith, total_add n d e)

total_less : (n : ℕ) (d e : ℕ → ℕ) → ((k : ℕ) → k < n → d k ≤ e k) → total n d ≤ total n e
total_less zero d e h = omega arith
total_less (suc n) d e h = omega (arith, total_less n d e (λ k l. h k (omega arith)), h n (omega arith))

total_same : (n : ℕ) (d e : ℕ → ℕ) → ((k : ℕ) → d k ≡ e k) → total n d ≡ total n e
total_same zero d e h = refl
total_same (suc n) d e h = omega (arith, total_same n d e h, h n)

only_both : (m a b k : ℕ) → only m a k + only m b k ≡ only m (a + b) k
only_both m a b k = elim (eq_or k m) [
  | inl e ↦ omega (arith, only_at m a k e, only_at m b k e, only_at m (a + b) k e)
  | inr e ↦ omega (arith, only_off m a k e, only_off m b k e, only_off m (a + b) k e)
]

total_one : (n m r : ℕ) (d : ℕ → ℕ) → total n (λ j. only m (d j) r) ≡ only m (total n d) r
total_one zero m r d = elim (eq_or r m) [ inl e ↦ sym (only_at m 0 r e) | inr e ↦ sym (only_off m 0 r e) ]
total_one (suc n) m r d = omega (arith, total_one n m r d, only_both m (total n d) (d n) r)

-- ---- one macroblock
module _ (len w x y : ℕ) (within : x < w) (simple : Bool) where
  square_moves : (t : Strength) (n column row : ℕ) → Square len w (column * n) (row * n) n → Size n
      → Moves len (y * w + x) (only (y / n) (line simple n column x) row + only (x / n) (line simple n row y) column) (square_of simple t w n column row)
  unfolding square_of inners_of inner_at
  square_moves t n column row s z =
      let some : 0 < n = omega (arith, size_eight z) in
      let a = moves_when (not (eqb column 0)) (λ e. vertical_by len w x y within (outer_edge simple t) row some (square_left s z (past_first column z (not_zero column e)))) in
      let b = moves_when (eqb t.inside 1) (λ e. moves_turns _ _ (n / 4 - 1) (λ j h. vertical_by len w x y within (inner_edge_of simple t) row some (square_upright s z j h))) in
      let c = moves_when (not (eqb row 0)) (λ e. horizontal_by len w x y within (outer_edge simple t) column some (square_top s z (past_first row z (not_zero row e)))) in
      let d = moves_when (eqb t.inside 1) (λ e. moves_turns _ _ (n / 4 - 1) (λ j h. horizontal_by len w x y within (inner_edge_of simple t) column some (square_level s z j h))) in
      moves_more (sum (n / 4 - 1) _ _ _ _) (moves_then (moves_then (moves_then a b) c) d)
    where
      sum : (N v h : ℕ) (f g : ℕ → ℕ)
          → only (y / n) v row + total N (λ j. only (y / n) (f j) row) + only (x / n) h column + total N (λ j. only (x / n) (g j) column)
          ≤ only (y / n) (v + total N f) row + only (x / n) (h + total N g) column
      sum N v h f g = omega (arith, total_one N (y / n) row f, total_one N (x / n) column g, only_both (y / n) v (total N f) row, only_both (x / n) h (total N g) column)

-- ---- which macroblocks reach a sample: its own, and the next one on
tap_zero : (simple outer : Bool) (k : ℕ) → (k ≡ 0) ⊎ (8 ≤ k) → get_or (farthest simple outer) k 0 ≡ 0
unfolding farthest
tap_zero simple outer k (inl e) = rw e (first simple outer)
  where
    first : (s o : Bool) → get_or (farthest s o) 0 0 ≡ 0
    first true o = refl
    first false true = refl
    first false false = refl
tap_zero simple outer k (inr h) = get_or-eq_default (farthest simple outer) 0 (eight simple outer)
  where
    eight : (s o : Bool) → length (farthest s o) ≤ k
    eight true o = h
    eight false true = h
    eight false false = h

line_far : (simple : Bool) (n c x : ℕ) → Size n → (c ≡ x / n → ⊥) → (c ≡ x / n + 1 → ⊥) → line simple n c x ≡ 0
line_far simple n c x z e f =
    let m = size_eight z in
    let k = tap_zero simple true (x + 4 - c * n) (outside (c * n) (omega arith) (omega arith)) in
    let i = total_off (n / 4 - 1) (λ j. tap simple false (c * n + 4 * j + 4) x) (λ j h. tap_zero simple false (x + 4 - (c * n + 4 * j + 4)) (outside (c * n + 4 * j + 4) (omega arith) (omega arith))) in
    omega (arith, k, i)
  where
    outside : (X : ℕ) → c * n ≤ X → X + 4 ≤ c * n + n → (x + 4 - X ≡ 0) ⊎ (8 ≤ x + 4 - X)
    outside X l h =
        let m = size_eight z in
        let d = div-add-mod x n in
        let r = mod-lt x {m = n} (omega arith) in
        let q = mul_comm n (x / n) in
        elim (lt_or c (x / n)) [
          | inl a ↦ inr (omega (arith, next_row c (x / n) n a))
          | inr a ↦ inl (omega (arith, add-mul (x / n) 1 n, one-mul n, next_row (x / n + 1) c n (after a)))
        ]
      where
        after : x / n ≤ c → x / n + 1 < c
        after a = elim (lt_or (x / n + 1) c) [
          | inl b ↦ b
          | inr b ↦ elim (lt_or (x / n) c) [ inl g ↦ absurd (f (omega arith)) | inr g ↦ absurd (e (omega arith)) ]
        ]

-- what only two numbers give: macroblock k, in place c of line r
two_only : (f : ℕ → ℕ) (r m c q k k₀ k₁ : ℕ) → (r ≡ m → c ≡ q → k ≡ k₀) → (r ≡ m → c ≡ q + 1 → k ≡ k₁) → ((c ≡ q → ⊥) → (c ≡ q + 1 → ⊥) → f c ≡ 0)
    → only m (f c) r ≤ only k₀ (f q) k + only k₁ (f (q + 1)) k
two_only f r m c q k k₀ k₁ own next far = elim (eq_or r m) [
  | inr e ↦ omega (arith, only_off m (f c) r e)
  | inl e ↦ elim (eq_or c q) [
    | inl g ↦ omega (arith, only_at m (f c) r e, only_at k₀ (f q) k (own e g), ap f g)
    | inr g ↦ elim (eq_or c (q + 1)) [
      | inl h ↦ omega (arith, only_at m (f c) r e, only_at k₁ (f (q + 1)) k (next e h), ap f h)
      | inr h ↦ omega (arith, only_at m (f c) r e, far g h)
    ]
  ]
]

-- ---- one plane
line_shift : (simple : Bool) (n c q m : ℕ) → line simple n (q + c) (q * n + m) ≡ line simple n c m
line_shift simple n c q m =
    ap₂ ◌+◌ (ap (λ (a : ℕ). get_or (farthest simple true) a 0) less)
    (total_same (n / 4 - 1) _ _ (λ j. ap (λ (a : ℕ). get_or (farthest simple false) a 0) (less' j)))
  where
    less : q * n + m + 4 - (q + c) * n ≡ m + 4 - c * n
    less = omega (arith, add-mul q c n)

    less' : (j : ℕ) → q * n + m + 4 - ((q + c) * n + 4 * j + 4) ≡ m + 4 - (c * n + 4 * j + 4)
    less' j = omega (arith, add-mul q c n)

reach_is : (simple : Bool) (n x : ℕ) → line simple n (x / n) x + line simple n (x / n + 1) x ≡ reach_of simple n (x % n)
unfolding reach_of
reach_is simple n x =
    ap₂ ◌+◌ (same (x / n) (x / n + 0) (omega arith) ∙ line_shift simple n 0 (x / n) (x % n)) (same (x / n + 1) (x / n + 1) refl ∙ line_shift simple n 1 (x / n) (x % n))
  where
    same : (b c : ℕ) → b ≡ c → line simple n b x ≡ line simple n c (x / n * n + x % n)
    same b c e = ap₂ (line simple n) e (sym (div-add-mod' x n))

-- what macroblock k can do to the sample
abbrev bound : (simple : Bool) (n wide x y k : ℕ) → ℕ
bound simple n wide x y k = only (y / n) (line simple n (k % wide) x) (k / wide) + only (x / n) (line simple n (k / wide) y) (k % wide)

module _ (simple : Bool) (strengths : List ℕ) {len n wide high : ℕ} (z : PlaneGrid len n wide high) (x y : ℕ) (within : x < wide * n) where
  block_moves : (k : ℕ) → k < wide * high → Moves len (y * (wide * n) + x) (bound simple n wide x y k) (macroblock_edges simple strengths n wide k)
  unfolding macroblock_edges
  block_moves k h = moves_when _ (λ e. square_moves len (wide * n) x y within simple _ n (k % wide) (k / wide) (grid_square z k h) z.size)

  few : total (wide * high) (bound simple n wide x y) ≤ reach_of simple n (x % n) + reach_of simple n (y % n)
  few =
      let N = wide * high in
      let k₀ = y / n * wide + x / n in
      let k₁ = y / n * wide + (x / n + 1) in
      let k₂ = (y / n + 1) * wide + x / n in
      let a = total_less N (λ k. only (y / n) (line simple n (k % wide) x) (k / wide)) (λ k. only k₀ (line simple n (x / n) x) k + only k₁ (line simple n (x / n + 1) x) k) (λ k h. row k) in
      let b = total_less N (λ k. only (x / n) (line simple n (k / wide) y) (k % wide)) (λ k. only k₀ (line simple n (y / n) y) k + only k₂ (line simple n (y / n + 1) y) k) (λ k h. column k) in
      omega (
        arith,
        a,
        b,
        total_add N (λ k. only (y / n) (line simple n (k % wide) x) (k / wide)) (λ k. only (x / n) (line simple n (k / wide) y) (k % wide)),
        total_add N (λ k. only k₀ (line simple n (x / n) x) k) (λ k. only k₁ (line simple n (x / n + 1) x) k),
        total_add N (λ k. only k₀ (line simple n (y / n) y) k) (λ k. only k₂ (line simple n (y / n + 1) y) k),
        total_only N (λ k. k) k₀ (line simple n (x / n) x) (λ j k e. e),
        total_only N (λ k. k) k₁ (line simple n (x / n + 1) x) (λ j k e. e),
        total_only N (λ k. k) k₀ (line simple n (y / n) y) (λ j k e. e),
        total_only N (λ k. k) k₂ (line simple n (y / n + 1) y) (λ j k e. e),
        reach_is simple n x,
        reach_is simple n y,
      )
    where
      raster : (k : ℕ) {r c : ℕ} → k / wide ≡ r → k % wide ≡ c → k ≡ r * wide + c
      raster k {r} {c} e f = sym (div-add-mod' k wide) ∙ ap₂ (λ (a b : ℕ). a * wide + b) e f

      row : (k : ℕ) → only (y / n) (line simple n (k % wide) x) (k / wide) ≤ only (y / n * wide + x / n) (line simple n (x / n) x) k + only (y / n * wide + (x / n + 1)) (line simple n (x / n + 1) x) k
      row k = two_only (λ c. line simple n c x) (k / wide) (y / n) (k % wide) (x / n) k _ _ (λ e f. raster k e f) (λ e f. raster k e f) (line_far simple n (k % wide) x z.size)

      column : (k : ℕ) → only (x / n) (line simple n (k / wide) y) (k % wide) ≤ only (y / n * wide + x / n) (line simple n (y / n) y) k + only ((y / n + 1) * wide + x / n) (line simple n (y / n + 1) y) k
      column k = two_only (λ c. line simple n c y) (k % wide) (x / n) (k / wide) (y / n) k _ _ (λ e f. raster k f e) (λ e f. raster k f e) (line_far simple n (k / wide) y z.size)

  -- THE LAW: once all edges are done, no sample has moved by more than the edges of its column and of its row reach
  pub plane_moves : (p : List ℕ) → Bytes p → length p ≡ len
      → (get_or (raster_of simple strengths n wide (wide * high) p) (y * (wide * n) + x) 0 ≤ get_or p (y * (wide * n) + x) 0 + (reach_of simple n (x % n) + reach_of simple n (y % n)))
      × (get_or p (y * (wide * n) + x) 0 ≤ get_or (raster_of simple strengths n wide (wide * high) p) (y * (wide * n) + x) 0 + (reach_of simple n (x % n) + reach_of simple n (y % n)))
  unfolding raster_of
  plane_moves p b l =
      let c = ((moves_more few (moves_turns (macroblock_edges simple strengths n wide) (bound simple n wide x y) (wide * high) block_moves)).at p b l).close in
      (c.more, c.less)

-- ---- the bounds as numbers
pub reach_most : (simple : Bool) {n : ℕ} (m : ℕ) → Size n → m < n → reach_of simple n m ≤ most simple
unfolding reach_of farthest
reach_most simple m z h = by_size (λ (n : ℕ). m < n → reach_of simple n m ≤ most simple) (λ l. test 8 m (eight simple) l) (λ l. test 16 m (sixteen simple) l) z h
  where
    test : (n m : ℕ) → all_below n (λ i. leb (reach_of simple n i) (most simple)) ≡ true → m < n → reach_of simple n m ≤ most simple
    test n m e l = leb-true (reach_of simple n m) (most simple) (all_below_lem (λ i. leb (reach_of simple n i) (most simple)) n e m l)

    eight : (s : Bool) → all_below 8 (λ i. leb (reach_of s 8 i) (most s)) ≡ true
    eight true = refl
    eight false = refl

    sixteen : (s : Bool) → all_below 16 (λ i. leb (reach_of s 16 i) (most s)) ≡ true
    sixteen true = refl
    sixteen false = refl

-- so a sample moves by at most 54, and 32 in the simple kind
pub sample_moves : (simple : Bool) (strengths : List ℕ) {len n wide high : ℕ} → PlaneGrid len n wide high → (x y : ℕ) → x < wide * n → (p : List ℕ) → Bytes p → length p ≡ len
    → (get_or (raster_of simple strengths n wide (wide * high) p) (y * (wide * n) + x) 0 ≤ get_or p (y * (wide * n) + x) 0 + 2 * most simple)
    × (get_or p (y * (wide * n) + x) 0 ≤ get_or (raster_of simple strengths n wide (wide * high) p) (y * (wide * n) + x) 0 + 2 * most simple)
sample_moves simple strengths {len} {n} {wide} {high} z x y within p b l =
    let some : 0 < n = omega (arith, size_eight z.size) in
    let m = plane_moves simple strengths z x y within p b l in
    let c = reach_most simple (x % n) z.size (mod-lt x some) in
    let r = reach_most simple (y % n) z.size (mod-lt y some) in
    (omega (arith, m.0), omega (arith, m.1))

-- the table, column by column
pub reach_table : (build 16 (reach_of false 16) ≡ 27 ∷ 18 ∷ 17 ∷ 16 ∷ 16 ∷ 8 ∷ 8 ∷ 16 ∷ 16 ∷ 8 ∷ 8 ∷ 16 ∷ 16 ∷ 17 ∷ 18 ∷ 27 ∷ [])
    × (build 8 (reach_of false 8) ≡ 27 ∷ 18 ∷ 17 ∷ 16 ∷ 16 ∷ 17 ∷ 18 ∷ 27 ∷ [])
    × (build 16 (reach_of true 16) ≡ 16 ∷ 0 ∷ 0 ∷ 16 ∷ 16 ∷ 0 ∷ 0 ∷ 16 ∷ 16 ∷ 0 ∷ 0 ∷ 16 ∷ 16 ∷ 0 ∷ 0 ∷ 16 ∷ [])
unfolding build reach_of farthest
reach_table = (refl, refl, refl)
