-- What deblocking leaves alone. A position looks at eight samples and moves at most six, so an edge moves three samples on either side
-- of it; what stands in macroblock rows from P on decides nothing above them but three sample rows; no macroblock moves a sample of
-- a later one; and of the strength records nothing but the strengths counts.
use Rattle.std.specs.Prelude.{◌+◌, ◌-◌, ◌*◌, ◌/◌, ◌%◌, ◌≤◌, ◌<◌, ◌≡◌, ◌⊎◌}
use Rattle.numbers.specs.Words.{ℕ, zero, suc, add-mul, add-suc, add-zero, div-add-mod', div-lt_iff_lt-mul, le-div_iff_mul-le, mul_comm, mul-le-mul_right, one-mul, arith, refl, sym, ◌∙◌, ap, Bool, true, false, not, cond, inl, inr, eqb, leb, lt_or, eq_or, List, length, get_or, set, length-set, get_or-set_other, get_or-set_same, set_out, build_same, all_below, Result, Ok, Err}
use Rattle.filter.specs.declared.strengths.Strength.{Strength}
use Rattle.tile.specs.Tile.{sides_of}
use Rattle.lent.specs.Memory.{strength_width, strength_at_of}
use Rattle.macroblock.specs.Macroblock.{Planes}
use Rattle.predict.specs.Predict.{Size}
use Rattle.planes.specs.Places.{size_some, next_row}
use Rattle.deblock.specs.declared.checks.DeblockError.{DeblockError}
use Rattle.deblock.specs.declared.checks.DeblockError.TheVariants as E
use Rattle.deblock.specs.Deblock.{Edge, Change, turns, when, across_of, laid_back, kept_of, position_of, sweep_of, vertical_edges, horizontal_edges, inner_at, square_of, macroblock_edges, raster_of, planes_deblocked, deblock_lengths, limits_of, deblock_checked, deblock_of}
use Rattle.deblock.specs.DeblockLaws.{Closed, turns_closed, when_closed, inners_closed, square_closed, laid_other, block_no}
use Rattle.deblock.specs.ChecksLaws as checks
use Rattle.deblock.specs.Located.{size_eight, inner_few, past_first, column_in, row_in}

-- ---- two planes that agree in the places S
pub record Twin (S : ℕ → Type 0) (p q : List ℕ) : Type 0 where
  pub long : length p ≡ length q
  pub same : (i : ℕ) → S i → get_or p i 0 ≡ get_or q i 0

module _ {S : ℕ → Type 0} where
  twin_set : {p q : List ℕ} (i : ℕ) {v u : ℕ} → v ≡ u → Twin S p q → Twin S (set p i v) (set q i u)
  twin_set {p} {q} i {v} {u} e t = record { long = length-set p i v ∙ t.long ∙ sym (length-set q i u); same = at }
    where
      at : (j : ℕ) → S j → get_or (set p i v) j 0 ≡ get_or (set q i u) j 0
      at j h = elim (eq_or j i) [
        | inl z ↦ elim (lt_or i (length p)) [
          | inl l ↦ rw z (get_or-set_same p i v 0 l ∙ e ∙ sym (get_or-set_same q i u 0 (rw t.long at l)))
          | inr l ↦ rw (set_out p i v l, set_out q i u (rw t.long at l)) (t.same j h)
        ]
        | inr z ↦ get_or-set_other p i j v 0 z ∙ t.same j h ∙ sym (get_or-set_other q i j u 0 z)
      ]

  twin_laid : {p q : List ℕ} (at step : ℕ) {e f : List ℕ} → e ≡ f → Twin S p q → (n : ℕ) → Twin S (laid_back p at step e n) (laid_back q at step f n)
  unfolding laid_back
  twin_laid at step w t zero = t
  twin_laid at step w t (suc n) = twin_set (at + suc n * step) (ap (λ (l : List ℕ). get_or l (suc n) 0) w) (twin_laid at step w t n)

-- ---- a change for which the places S decide what becomes of them
abbrev pub On : (ℕ → Type 0) → Change → Type 0
On S f = (p q : List ℕ) → Twin S p q → Twin S (f p) (f q)

on_closed : (S : ℕ → Type 0) → Closed (On S)
on_closed S = record { none = λ p q t. t; then = λ f g h k p q t. k (f p) (f q) (h p q t) }

position_on : (S : ℕ → Type 0) (g : Edge) (at step : ℕ) → ((k : ℕ) → k < 8 → S (at + k * step)) → On S (position_of g at step)
unfolding position_of across_of
position_on S g at step h p q t = twin_laid at step (ap (kept_of g) (build_same 8 _ _ (λ k l. t.same (at + k * step) (h k l)))) t 6

-- ---- a change that moves nothing in the places S
abbrev pub OffPlaces : (ℕ → Type 0) → Change → Type 0
OffPlaces S f = (p : List ℕ) (i : ℕ) → S i → get_or (f p) i 0 ≡ get_or p i 0

off_closed : (S : ℕ → Type 0) → Closed (OffPlaces S)
off_closed S = record { none = λ p i h. refl; then = λ f g h k p i l. k (f p) i l ∙ h p i l }

position_off : (S : ℕ → Type 0) (g : Edge) (at step : ℕ) → ((k : ℕ) → 0 < k → k < 7 → S (at + k * step) → ⊥) → OffPlaces S (position_of g at step)
unfolding position_of
position_off S g at step h p i s = laid_other p at step _ 6 i (λ k l o e. h k o (omega arith) (rw e at s))

-- ---- THE LAW OF AN EDGE. Sample k of position j of an edge: p3, p2, p1, p0 and q0, q1, q2, q3 are 0 to 7
module _ (g : Edge) (at along step n : ℕ) where
  abbrev pub sample_place : (j k : ℕ) → ℕ
  sample_place j k = at + j * along + k * step

  -- an edge moves at most three samples on either side of it: no place that is none of these is moved
  pub edge_moves_six : (p : List ℕ) (i : ℕ) → ((j k : ℕ) → j < n → 0 < k → k < 7 → i ≡ sample_place j k → ⊥) → get_or (sweep_of g at along step n p) i 0 ≡ get_or p i 0
  unfolding sweep_of
  edge_moves_six p i h =
      turns_closed (off_closed (λ x. x ≡ i)) _ n (λ j l. position_off (λ x. x ≡ i) g (at + j * along) step (λ k o m e. h j k l o m (sym e))) p i refl

  -- and it looks at four on either side: those decide what becomes of them
  pub edge_looks_at_eight : (p q : List ℕ) → length p ≡ length q → ((j k : ℕ) → j < n → k < 8 → get_or p (sample_place j k) 0 ≡ get_or q (sample_place j k) 0)
      → (j k : ℕ) → j < n → k < 8 → get_or (sweep_of g at along step n p) (sample_place j k) 0 ≡ get_or (sweep_of g at along step n q) (sample_place j k) 0
  unfolding sweep_of
  edge_looks_at_eight p q l h j k a b =
      (turns_closed (on_closed Eight) _ n (λ i o. position_on Eight g (at + i * along) step (λ k m. (i, k, o, m, refl))) p q (record { long = l; same = found })).same (sample_place j k) (j, k, a, b, refl)
    where
      Eight : ℕ → Type 0
      Eight i = (j : ℕ) × (k : ℕ) × (j < n) × (k < 8) × (i ≡ sample_place j k)

      found : (i : ℕ) → Eight i → get_or p i 0 ≡ get_or q i 0
      found i (j, k, a, b, e) = rw e (h j k a b)

-- ---- where the samples of edges lie
-- place i is column c of row r, in columns below C and in rows from T on and below R
pub record Spot (w C R T i : ℕ) : Type 0 where
  pub column : ℕ
  pub row : ℕ
  pub place : i ≡ row * w + column
  pub left : column < C
  pub above : row < R
  pub top : T ≤ row

-- the eight samples of a position, across a vertical edge or down a horizontal one, lie in columns below C and in rows below R; those that
-- may move lie in rows from T on
pub record Lies (w C R T at step : ℕ) : Type 0 where
  pub column : ℕ
  pub row : ℕ
  pub first : at ≡ row * w + column
  pub way : ((step ≡ 1) × (column + 8 ≤ C) × (row < R) × (T ≤ row)) ⊎ ((step ≡ w) × (column < C) × (row + 8 ≤ R) × (T ≤ row + 1))

lies_spot : {w C R T at step : ℕ} → Lies w C R T at step → (U k : ℕ) → k < 8 → U ≤ T → U ≤ T + k - 1 → Spot w C R U (at + k * step)
lies_spot {w} {C} {R} {T} {at} {step} l U k h a b = elim l.way [
  | inl z ↦ record { column = l.column + k; row = l.row; place = omega (arith, l.first, ap (λ (s : ℕ). k * s) z.0); left = omega (arith, z.1); above = z.2; top = omega (arith, z.3) }
  | inr z ↦ record { column = l.column; row = l.row + k; place = omega (arith, l.first, ap (λ (s : ℕ). k * s) z.0, add-mul l.row k w); left = z.1; above = omega (arith, z.2); top = omega (arith, z.3) }
]

-- what holds of each position that lies so holds of a macroblock's edges
module _ {Φ : Change → Type 0} (z : Closed Φ) (w C R T : ℕ) (one : (g : Edge) (at step : ℕ) → Lies w C R T at step → Φ (position_of g at step)) where
  vertical_local : (g : Edge) (x y n : ℕ) → 4 ≤ x → x + 4 ≤ C → y + n ≤ R → T ≤ y → Φ (vertical_edges g w x y n)
  unfolding vertical_edges sweep_of
  vertical_local g x y n a b c d =
      turns_closed z _ n
      (λ i h. one g (y * w + x - 4 + i * w) 1 (record { column = x - 4; row = y + i; first = omega (arith, add-mul y i w); way = inl (refl, omega arith, omega arith, omega arith) }))

  horizontal_local : (g : Edge) (x y n : ℕ) → 4 ≤ y → y + 4 ≤ R → x + n ≤ C → T ≤ y - 3 → Φ (horizontal_edges g w x y n)
  unfolding horizontal_edges sweep_of
  horizontal_local g x y n a b c d =
      turns_closed z _ n
      (λ i h. one g ((y - 4) * w + x + i * 1) w (record { column = x + i; row = y - 4; first = omega arith; way = inr (refl, omega arith, omega arith, omega arith) }))

  square_local : (simple : Bool) (t : Strength) (n column row : ℕ) → Size n → column * n + n ≤ C → row * n + n ≤ R → T ≤ row * n - 3 → Φ (square_of simple t w n column row)
  unfolding inner_at
  square_local simple t n column row s a b c =
      square_closed z simple t w n column row
      (λ e. vertical_local _ (column * n) (row * n) n (past_first column s e) (omega (arith, size_eight s)) b (omega arith))
      (inners_closed z true _ w _ _ n (λ j h. vertical_local _ (column * n + 4 * j + 4) (row * n) n (omega arith) (omega (arith, inner_few s j h)) b (omega arith)))
      (λ e. horizontal_local _ (column * n) (row * n) n (past_first row s e) (omega (arith, size_eight s)) a c)
      (inners_closed z false _ w _ _ n (λ j h. horizontal_local _ (column * n) (row * n + 4 * j + 4) n (omega arith) (omega (arith, inner_few s j h)) a (omega arith)))

module _ {Φ : Change → Type 0} (z : Closed Φ) (C R T : ℕ) (simple : Bool) (strengths : List ℕ) (n wide k : ℕ) where
  block_local : ((g : Edge) (at step : ℕ) → Lies (wide * n) C R T at step → Φ (position_of g at step)) → Size n → k % wide * n + n ≤ C → k / wide * n + n ≤ R → T ≤ k / wide * n - 3
      → Φ (macroblock_edges simple strengths n wide k)
  unfolding macroblock_edges
  block_local one s a b c = when_closed z _ _ (λ e. square_local z (wide * n) C R T one simple _ n (k % wide) (k / wide) s a b c)

-- ---- a plane up to macroblock row P, and from there on
turns_split : (f : ℕ → Change) (a b : ℕ) (p : List ℕ) → turns f (a + b) p ≡ turns (λ k. f (a + k)) b (turns f a p)
unfolding turns
turns_split f a zero p = rw (add-zero a)
turns_split f a (suc b) p = rw (add-suc a b) (ap (f (a + b)) (turns_split f a b p))

turns_same : (f g : ℕ → Change) (n : ℕ) (p : List ℕ) → ((k : ℕ) → k < n → (q : List ℕ) → f k q ≡ g k q) → turns f n p ≡ turns g n p
unfolding turns
turns_same f g zero p h = refl
turns_same f g (suc n) p h = h n (omega arith) (turns f n p) ∙ ap (g n) (turns_same f g n p (λ k l. h k (omega arith)))

block_same : (simple : Bool) (s t : List ℕ) (n wide k : ℕ) → strength_at_of s k ≡ strength_at_of t k → (q : List ℕ) → macroblock_edges simple s n wide k q ≡ macroblock_edges simple t n wide k q
unfolding macroblock_edges
block_same simple s t n wide k e q = ap (λ (x : Strength). when (not (eqb x.limit 0)) (square_of simple x (wide * n) n (k % wide) (k / wide)) q) e

raster_same : (simple : Bool) (s t : List ℕ) (n wide m : ℕ) (x : List ℕ) → ((k : ℕ) → k < m → strength_at_of s k ≡ strength_at_of t k) → raster_of simple s n wide m x ≡ raster_of simple t n wide m x
unfolding raster_of
raster_same simple s t n wide m x h = turns_same _ _ m x (λ k l. block_same simple s t n wide k (h k l))

module _ (simple : Bool) {n wide high P : ℕ} (size : Size n) (some : 0 < wide) (l : P ≤ high) where
  -- the rows above
  abbrev Upper : ℕ → Type 0
  Upper i = i < P * n * (wide * n)

  first_rows : (s : List ℕ) → On Upper (raster_of simple s n wide (wide * P))
  unfolding raster_of
  first_rows s =
      turns_closed (on_closed Upper) _ (wide * P)
      (λ k h. block_local (on_closed Upper) (wide * n) (P * n) 0 simple s n wide k
      (λ g at step e. position_on Upper g at step (λ j m. let q = lies_spot e 0 j m (omega arith) (omega arith) in omega (arith, q.place, q.left, next_row q.row (P * n) (wide * n) q.above)))
      size (column_in wide n k some) (row_in wide n k some P h) (omega arith))

  -- the rows from P on
  abbrev Kept : ℕ → Type 0
  Kept i = i < (P * n - 3) * (wide * n)

  row_from : (k : ℕ) → P ≤ (wide * P + k) / wide
  row_from k = (le-div_iff_mul-le some).1 (omega (arith, mul_comm wide P))

  later_rows : (s : List ℕ) (b : ℕ) → OffPlaces Kept (turns (λ k. macroblock_edges simple s n wide (wide * P + k)) b)
  later_rows s b =
      turns_closed (off_closed Kept) _ b
      (λ k g. block_local (off_closed Kept) (wide * n) ((wide * P + k) / wide * n + n) (P * n - 3) simple s n wide (wide * P + k)
      (λ g at step e. position_off Kept g at step
      (λ j o m h. let q = lies_spot e (P * n - 3) j (omega arith) (omega arith) (omega arith) in omega (arith, q.place, mul-le-mul_right {m = P * n - 3} {n = q.row} (wide * n) q.top)))
      size (column_in wide n (wide * P + k) some) (omega arith) (omega (arith, mul-le-mul_right {m = P} {n = (wide * P + k) / wide} n (row_from k))))

  split : (s : List ℕ) (p : List ℕ) → raster_of simple s n wide (wide * high) p ≡ turns (λ k. macroblock_edges simple s n wide (wide * P + k)) (wide * high - wide * P) (raster_of simple s n wide (wide * P) p)
  unfolding raster_of
  split s p =
      let e : wide * high ≡ wide * P + (wide * high - wide * P) = omega (arith, mul-le-mul_right {m = P} {n = high} wide l, mul_comm wide P, mul_comm wide high) in
      ap (λ (m : ℕ). turns (macroblock_edges simple s n wide) m p) e ∙ turns_split (macroblock_edges simple s n wide) (wide * P) (wide * high - wide * P) p

  -- THE LAW OF ROWS: two planes that agree in the macroblock rows above row P, with strengths that do, agree there after deblocking too, but
  -- for the lowest three sample rows
  pub plane_local : (s t p q : List ℕ) → ((k : ℕ) → k < wide * P → strength_at_of s k ≡ strength_at_of t k) → Twin (λ i. i < P * n * (wide * n)) p q
      → (i : ℕ) → i < (P * n - 3) * (wide * n) → get_or (raster_of simple s n wide (wide * high) p) i 0 ≡ get_or (raster_of simple t n wide (wide * high) q) i 0
  plane_local s t p q h w i g =
      let a = later_rows s (wide * high - wide * P) (raster_of simple s n wide (wide * P) p) i g in
      let b = later_rows t (wide * high - wide * P) (raster_of simple t n wide (wide * P) q) i g in
      let c = (first_rows s p q w).same i (omega (arith, mul-le-mul_right {m = P * n - 3} {n = P * n} (wide * n) (omega arith))) in
      ap (λ (x : List ℕ). get_or x i 0) (split s p) ∙ a ∙ c ∙ ap (λ (x : List ℕ). get_or x i 0) (raster_same simple s t n wide (wide * P) q h) ∙ sym b ∙ sym (ap (λ (x : List ℕ). get_or x i 0) (split t q))

-- ---- a macroblock and those after it
-- a place has one column and one row
not_below : (w a c q r : ℕ) → a < w → q * w + a ≡ r * w + c → r ≤ q
not_below w a c q r x e = elim (lt_or q r) [ inl h ↦ absurd (omega (arith, next_row q r w h)) | inr h ↦ h ]

pub one_row : (w a c q r : ℕ) → a < w → c < w → q * w + a ≡ r * w + c → (q ≡ r) × (a ≡ c)
one_row w a c q r x y e =
    let z : q ≡ r = omega (arith, not_below w a c q r x e, not_below w c a r q y (sym e)) in
    (z, omega (arith, ap (λ (i : ℕ). i * w) z))

module _ (simple : Bool) (s : List ℕ) {n wide : ℕ} (size : Size n) (some : 0 < wide) (c r : ℕ) (inside : c < wide * n) where
  abbrev Here : ℕ → Type 0
  Here i = i ≡ r * (wide * n) + c

  -- the macroblock that column c of row r lies in
  abbrev own : ℕ
  own = r / n * wide + c / n

  -- no macroblock moves a sample of a later one
  earlier : (k : ℕ) → k < own → OffPlaces Here (macroblock_edges simple s n wide k)
  earlier k h =
      block_local (off_closed Here) (k % wide * n + n) (k / wide * n + n) 0 simple s n wide k
      (λ g at step e. position_off Here g at step (λ j o m f. let q = lies_spot e 0 j (omega arith) (omega arith) (omega arith) in past q f))
      size (omega arith) (omega arith) (omega arith)
    where
      below : (i b : ℕ) → i < b * n + n → i / n ≤ b
      below i b g =
          let more : i < (b + 1) * n = omega (arith, add-mul b 1 n, one-mul n) in
          let few : i / n < b + 1 = (div-lt_iff_lt-mul (size_some size).0).1 more in
          omega arith

      past : {i : ℕ} → Spot (wide * n) (k % wide * n + n) (k / wide * n + n) 0 i → Here i → ⊥
      past q f =
          let e = one_row (wide * n) q.column c q.row r (omega (arith, q.left, column_in wide n k some)) inside (sym q.place ∙ f) in
          omega (
            arith,
            below r (k / wide) (omega (arith, q.above, e.0)),
            below c (k % wide) (omega (arith, q.left, e.1)),
            mul-le-mul_right {m = r / n} {n = k / wide} wide (below r (k / wide) (omega (arith, q.above, e.0))),
            div-add-mod' k wide,
          )

  -- THE LAW OF LATER MACROBLOCKS: where macroblocks from d on have limit 0, no sample of theirs moves
  pub later_stay : (d m : ℕ) → ((k : ℕ) → d ≤ k → (strength_at_of s k).limit ≡ 0) → d ≤ own → (p : List ℕ) → get_or (raster_of simple s n wide m p) (r * (wide * n) + c) 0 ≡ get_or p (r * (wide * n) + c) 0
  unfolding raster_of
  later_stay d m h e p =
      turns_closed (off_closed Here) _ m
      (λ k l. elim (lt_or k d) [
        | inl g ↦ earlier k (omega arith)
        | inr g ↦ λ q i f. ap (λ (x : List ℕ). get_or x i 0) (sym (block_no simple s n wide k {t = strength_at_of s k} {p = q} refl (h k g) refl))
      ])
      p (r * (wide * n) + c) refl

-- ---- a plane that is deblocked where a test holds
pub when_local : (b : Bool) (f g : Change) (p q : List ℕ) (i : ℕ) → get_or (f p) i 0 ≡ get_or (g q) i 0 → get_or p i 0 ≡ get_or q i 0 → get_or (when b f p) i 0 ≡ get_or (when b g q) i 0
unfolding when
when_local true f g p q i h k = h
when_local false f g p q i h k = k

pub when_same : (b : Bool) (f : Change) (p : List ℕ) (i : ℕ) → get_or (f p) i 0 ≡ get_or p i 0 → get_or (when b f p) i 0 ≡ get_or p i 0
unfolding when
when_same true f p i h = h
when_same false f p i h = refl

-- ---- THE LAW OF RECORDS (M-106): of a strength record nothing but the strengths is looked at
module _ (m : Planes) (s t : List ℕ) (w h : ℕ) (simple : Bool) (e : length s ≡ length t) (f : (k : ℕ) → strength_at_of s k ≡ strength_at_of t k) where
  checked_same : (y u v : ℕ) → deblock_checked w h y u v s ≡ deblock_checked w h y u v t
  unfolding deblock_checked limits_of
  checked_same y u v = λ i. cond (sides_of w h) (cond (deblock_lengths w h y u v (e i)) (cond (all_below (e i / strength_width) (λ k. leb (f k i).limit 189)) (Ok tt) (Err E.Limit)) (Err E.Lengths)) (Err E.Sides)

  planes_same : planes_deblocked simple s (w / 16) (h / 16) m ≡ planes_deblocked simple t (w / 16) (h / 16) m
  unfolding planes_deblocked
  planes_same =
      let all : ℕ = w / 16 * (h / 16) in
      λ i. record {
        y = raster_same simple s t 16 (w / 16) all m.y (λ k l. f k) i;
        u = when (not simple) (λ p. raster_same simple s t 8 (w / 16) all p (λ k l. f k) i) m.u;
        v = when (not simple) (λ p. raster_same simple s t 8 (w / 16) all p (λ k l. f k) i) m.v;
      }

  pub deblock_same : deblock_of m s w h simple ≡ deblock_of m t w h simple
  deblock_same = go (deblock_checked w h (length m.y) (length m.u) (length m.v) s) refl
    where
      there : deblock_checked w h (length m.y) (length m.u) (length m.v) t ≡ deblock_checked w h (length m.y) (length m.u) (length m.v) s
      there = sym (checked_same (length m.y) (length m.u) (length m.v))

      go : (r : Result Unit DeblockError) → deblock_checked w h (length m.y) (length m.u) (length m.v) s ≡ r → deblock_of m s w h simple ≡ deblock_of m t w h simple
      go (Ok d) g =
          sym (checks.checked_done m s w h simple (sym g) refl)
          ∙ ap (λ (p : Planes). record { answer = Ok tt; planes = p }) planes_same
          ∙ checks.checked_done m t w h simple (sym (there ∙ g)) refl
      go (Err k) g = checks.deblock_refused m s w h simple k g ∙ sym (checks.deblock_refused m t w h simple k (there ∙ g))
