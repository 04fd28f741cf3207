-- Laws of a block: rows copied, rows and columns exchanged, its sixteen positions, and an edge of a plane that went through it.
use Rattle.std.specs.Prelude.{◌+◌, ◌-◌, ◌*◌, ◌/◌, ◌%◌, ◌≤◌, ◌<◌, ◌≡◌, ◌||◌, ◌⊎◌}
use Rattle.numbers.specs.Words.{ℕ, zero, suc, add-one, mul-le-mul_right, arith, refl, sym, ◌∙◌, ap, subst, Bool, true, false, inl, inr, eqb, lt_or, eq_or, never, eqb-true, List, length, get_or, set, replicate, ext_get_or, Filled, length_build, get_or_build, get_or_build_past, built, build_same, filled_next, get_or_constant, copied, Off, length_copied, copied_keeps, copied_in, copied_off, all_below, all_below_lem}
use Rattle.filter.specs.Kernel.{samples_across}
use Rattle.filter.specs.KernelLaws.{Bytes}
use Rattle.straight.specs.Straight.{acts_of, straight_of}
use Rattle.straight.specs.StraightLaws.{straight_filter, acts_none}
use Rattle.planes.specs.Places.{next_row}
use Rattle.deblock.specs.Deblock.{Edge, Change, turns, across_of, laid_back, kept_of, position_of, sweep_of}
use Rattle.deblock.specs.DeblockLaws.{Closed, turns_closed, length_across, across_bytes, position_bytes, position_laid, position_still, length_edge, position_off, position_at}
use Rattle.deblock.specs.LocalLaws.{edge_moves_six, one_row}
use Rattle.deblock.specs.MovesLaws.{number}
use Rattle.deblock.specs.Block.{acting_of, rows_copied, shuffled_of, columns_of, sample_rows}

-- ---- rows copied
module _ (to : List ℕ) (at w : ℕ) (from : List ℕ) (start v n : ℕ) where
  pub rows_none : rows_copied to at w from start v n 0 ≡ to
  unfolding rows_copied
  rows_none = refl

  pub rows_next : (r : ℕ) → copied (rows_copied to at w from start v n r) (at + r * w) from (start + r * v) n ≡ rows_copied to at w from start v n (r + 1)
  unfolding rows_copied
  rows_next r = rw add-one

  pub length_rows : (r : ℕ) → length (rows_copied to at w from start v n r) ≡ length to
  unfolding rows_copied
  length_rows zero = refl
  length_rows (suc r) = length_copied (rows_copied to at w from start v n r) (at + r * w) from (start + r * v) n ∙ length_rows r

  -- a place that none of them is
  outside : (x r : ℕ) → ((c : ℕ) → c < n → x ≡ at + r * w + c → ⊥) → Off (at + r * w) n x
  outside x r h = elim (lt_or x (at + r * w)) [
    | inl l ↦ inl l
    | inr l ↦ elim (lt_or x (at + r * w + n)) [
      | inl m ↦ absurd (h (x - (at + r * w)) (omega arith) (omega arith))
      | inr m ↦ inr m
    ]
  ]

  pub rows_off : (rows x : ℕ) → ((r c : ℕ) → r < rows → c < n → x ≡ at + r * w + c → ⊥) → get_or (rows_copied to at w from start v n rows) x 0 ≡ get_or to x 0
  unfolding rows_copied
  rows_off zero x h = refl
  rows_off (suc r) x h =
      copied_off (rows_copied to at w from start v n r) (at + r * w) from (start + r * v) n x (outside x r (λ c. h r c (omega arith)))
      ∙ rows_off r x (λ q c l. h q c (omega arith))

  -- and each of them
  pub rows_in : (rows r c : ℕ) → n ≤ w → ((i : ℕ) → i < rows → at + i * w + n ≤ length to) → r < rows → c < n
      → get_or (rows_copied to at w from start v n rows) (at + r * w + c) 0 ≡ get_or from (start + r * v + c) 0
  unfolding rows_copied
  rows_in zero r c few room h l = absurd (omega arith)
  rows_in (suc m) r c few room h l = elim (eq_or r m) [
    | inl e ↦ rw e (copied_in (rows_copied to at w from start v n m) (at + m * w) from (start + m * v) n c (rw (length_rows m) (room m (omega arith))) l)
    | inr e ↦
        copied_off (rows_copied to at w from start v n m) (at + m * w) from (start + m * v) n (at + r * w + c) (inl (omega (arith, next_row r m w (less e))))
        ∙ rows_in m r c few (λ i g. room i (omega arith)) (less e) l
  ]
    where
      less : (r ≡ m → ⊥) → r < m
      less e = elim (lt_or r m) [ inl g ↦ g | inr g ↦ absurd (e (omega arith)) ]

  pub rows_bytes : (r : ℕ) → Bytes to → Bytes from → Bytes (rows_copied to at w from start v n r)
  unfolding rows_copied
  rows_bytes zero b f = b
  rows_bytes (suc r) b f = copied_keeps (rows_copied to at w from start v n r) (at + r * w) from (start + r * v) n (λ (x : ℕ). x < 256) (rows_bytes r b f) f

-- ---- rows and columns exchanged
-- where a shuffle takes its element j from
abbrev half : ℕ → ℕ
half j = j / 2 + j % 2 * 64

half_below : (j : ℕ) → j < 128 → half j < 128
half_below j h = omega arith

-- two ways to a place agree where they agree on all 128
same_place : (f g : ℕ → ℕ) → all_below 128 (λ i. eqb (f i) (g i)) ≡ true → (j : ℕ) → j < 128 → f j ≡ g j
same_place f g e j h = eqb-true (f j) (g j) (all_below_lem (λ i. eqb (f i) (g i)) 128 e j h)

-- an array filled by two a turn
pub shuffle_next : (t : List ℕ) {l : List ℕ} {i : ℕ} → i < 64 → Filled l 128 (λ j. get_or t (half j) 0) (2 * i)
    → Filled (set (set l (2 * i) (get_or t i 0)) (2 * i + 1) (get_or t (64 + i) 0)) 128 (λ j. get_or t (half j) 0) (2 * (i + 1))
shuffle_next t {l} {i} h f =
    subst (Filled (set (set l (2 * i) (get_or t i 0)) (2 * i + 1) (get_or t (64 + i) 0)) 128 (λ j. get_or t (half j) 0)) {x = 2 * i + 1 + 1} {y = 2 * (i + 1)} (omega arith)
    (filled_next (get_or t (64 + i) 0) (omega arith) (ap (λ (j : ℕ). get_or t j 0) {x = 64 + i} {y = half (2 * i + 1)} (omega arith))
    (filled_next (get_or t i 0) (omega arith) (ap (λ (j : ℕ). get_or t j 0) {x = i} {y = half (2 * i)} (omega arith)) f))

module _ (t : List ℕ) where
  shuffled_at : (j : ℕ) → j < 128 → get_or (shuffled_of t) j 0 ≡ get_or t (half j) 0
  unfolding shuffled_of
  shuffled_at j h = get_or_build 128 _ j 0 h

  length_shuffled : length (shuffled_of t) ≡ 128
  unfolding shuffled_of
  length_shuffled = length_build 128 _

-- three shuffles make rows of columns, and four columns of rows
module _ (t : List ℕ) where
  three_at_lem : (j : ℕ) → j < 128 → get_or (shuffled_of (shuffled_of (shuffled_of t))) j 0 ≡ get_or t (half (half (half j))) 0
  three_at_lem j h =
      let k = half_below j h in
      shuffled_at (shuffled_of (shuffled_of t)) j h ∙ shuffled_at (shuffled_of t) (half j) k ∙ shuffled_at t (half (half j)) (half_below (half j) k)

  three_shuffles : shuffled_of (shuffled_of (shuffled_of t)) ≡ sample_rows t
  unfolding sample_rows
  three_shuffles =
      built (shuffled_of (shuffled_of (shuffled_of t))) 128 _ 0 (length_shuffled (shuffled_of (shuffled_of t)))
      (λ j h. three_at_lem j h ∙ ap (λ (i : ℕ). get_or t i 0) (same_place (λ i. half (half (half i))) (λ i. i % 8 * 16 + i / 8) refl j h))

pub rows_shuffled : (t : List ℕ) {a b c : List ℕ} → a ≡ shuffled_of t → b ≡ shuffled_of a → c ≡ shuffled_of b → c ≡ sample_rows t
rows_shuffled t e f g = g ∙ ap shuffled_of (f ∙ ap shuffled_of e) ∙ three_shuffles t

module _ (t : List ℕ) where
  four_shuffles : shuffled_of (shuffled_of (shuffled_of (shuffled_of t))) ≡ columns_of t
  unfolding columns_of
  four_shuffles =
      built (shuffled_of (shuffled_of (shuffled_of (shuffled_of t)))) 128 _ 0 (length_shuffled (shuffled_of (shuffled_of (shuffled_of t))))
      (λ j h. three_at_lem (shuffled_of t) j h ∙ shuffled_at t (half (half (half j))) (half_below _ (half_below _ (half_below j h))) ∙ ap (λ (i : ℕ). get_or t i 0) (same_place (λ i. half (half (half (half i)))) (λ i. i % 16 * 8 + i / 16) refl j h))

  pub columns_shuffled : {a b c d : List ℕ} → a ≡ shuffled_of t → b ≡ shuffled_of a → c ≡ shuffled_of b → d ≡ shuffled_of c → d ≡ columns_of t
  columns_shuffled e f g h = h ∙ ap shuffled_of (g ∙ ap shuffled_of (f ∙ ap shuffled_of e)) ∙ four_shuffles

  pub columns_at : (i k : ℕ) → i < 16 → k < 8 → get_or (columns_of t) (i + 16 * k) 0 ≡ get_or t (8 * i + k) 0
  unfolding columns_of
  columns_at i k h l =
      get_or_build 128 _ (i + 16 * k) 0 (omega arith) ∙ ap (λ (j : ℕ). get_or t j 0) {x = (i + 16 * k) % 16 * 8 + (i + 16 * k) / 16} {y = 8 * i + k} (omega arith)

  pub rows_at : (i k : ℕ) → i < 16 → k < 8 → get_or (sample_rows t) (8 * i + k) 0 ≡ get_or t (i + 16 * k) 0
  unfolding sample_rows
  rows_at i k h l =
      get_or_build 128 _ (8 * i + k) 0 (omega arith) ∙ ap (λ (j : ℕ). get_or t j 0) {x = (8 * i + k) % 8 * 16 + (8 * i + k) / 8} {y = i + 16 * k} (omega arith)

  pub length_columns : length (columns_of t) ≡ 128
  unfolding columns_of
  length_columns = length_build 128 _

  pub length_sample_rows : length (sample_rows t) ≡ 128
  unfolding sample_rows
  length_sample_rows = length_build 128 _

  pub columns_bytes : Bytes t → Bytes (columns_of t)
  unfolding columns_of
  columns_bytes b j = elim (lt_or j 128) [
    | inl h ↦ rw (get_or_build 128 (λ (i : ℕ). get_or t (i % 16 * 8 + i / 16) 0) j 0 h) (b (j % 16 * 8 + j / 16))
    | inr h ↦ rw (get_or_build_past 128 (λ (i : ℕ). get_or t (i % 16 * 8 + i / 16) 0) j 0 h) (omega arith)
  ]

-- ---- one position after another: what becomes of each
-- positions whose samples no other has
abbrev pub Spread : (along step n : ℕ) → Type 0
Spread along step n = (i j k l : ℕ) → i < n → j < n → k < 8 → l < 8 → i * along + k * step ≡ j * along + l * step → i ≡ j

pub spread_level : {w n : ℕ} → n ≤ w → Spread 1 w n
spread_level {w} {n} h i j k l a b c d e = (one_row w i j k l (omega arith) (omega arith) (omega arith)).1

pub spread_upright : {w n : ℕ} → 8 ≤ w → Spread w 1 n
spread_upright {w} {n} h i j k l a b c d e = (one_row w k l i j (omega arith) (omega arith) (omega arith)).0

bytes_closed : Closed (λ (f : Change). (p : List ℕ) → Bytes p → Bytes (f p))
bytes_closed = record { none = λ p b. b; then = λ f g h k p b. k (f p) (h p b) }

module _ (g : Edge) (at along step : ℕ) where
  sweep_suc : (n : ℕ) (p : List ℕ) → sweep_of g at along step (suc n) p ≡ position_of g (at + n * along) step (sweep_of g at along step n p)
  unfolding sweep_of turns
  sweep_suc n p = refl

  pub sweep_none : (p : List ℕ) → sweep_of g at along step 0 p ≡ p
  unfolding sweep_of turns
  sweep_none p = refl

  sweep_next : (n : ℕ) (p : List ℕ) → position_of g (at + n * along) step (sweep_of g at along step n p) ≡ sweep_of g at along step (n + 1) p
  sweep_next n p = rw add-one (sym (sweep_suc n p))

  sweep_bytes : (n : ℕ) (p : List ℕ) → Bytes p → Bytes (sweep_of g at along step n p)
  unfolding sweep_of
  sweep_bytes n = turns_closed bytes_closed _ n (λ i h p b. position_bytes g (at + i * along) step p b)

  -- those that come later still find their samples
  pub across_later : (p : List ℕ) (m n : ℕ) → Spread along step m → n < m → across_of (sweep_of g at along step n p) (at + n * along) step ≡ across_of p (at + n * along) step
  unfolding across_of
  across_later p m n s h =
      build_same 8 _ _ (λ k l. edge_moves_six g at along step n p (at + n * along + k * step) (λ i q a o b e. below i (s n i k q h (omega arith) l (omega arith) (omega arith)) a))
    where
      below : (i : ℕ) → n ≡ i → i < n → ⊥
      below i e a = omega arith

  pub sweep_at : (p : List ℕ) (n : ℕ) → Bytes p → 0 < step → Spread along step n → ((i : ℕ) → i < n → at + i * along + 7 * step < length p)
      → (i k : ℕ) → i < n → k < 8 → get_or (sweep_of g at along step n p) (at + i * along + k * step) 0 ≡ get_or (kept_of g (across_of p (at + i * along) step)) k 0
  sweep_at p zero b some s room i k h l = absurd (omega arith)
  sweep_at p (suc n) b some s room i k h l = elim (eq_or i n) [
    | inl e ↦ rw (e, sweep_suc) (position_at g (at + n * along) step (sweep_of g at along step n p) (sweep_bytes n p b) some (rw length_edge (room n (omega arith))) k l ∙ ap (λ (x : List ℕ). get_or (kept_of g x) k 0) (across_later p (suc n) n s (omega arith)))
    | inr e ↦
        ap (λ (x : List ℕ). get_or x (at + i * along + k * step) 0) (sweep_suc n p)
        ∙ position_off g (at + n * along) step (sweep_of g at along step n p) (at + i * along + k * step) (λ j a z. e (s i n k j h (omega arith) l a (omega arith)))
        ∙ sweep_at p n b some (λ i j k l a c. s i j k l (omega arith) (omega arith)) (λ j a. room j (omega arith)) i k (less e) l
  ]
    where
      less : (i ≡ n → ⊥) → i < n
      less e = elim (lt_or i n) [ inl q ↦ q | inr q ↦ absurd (e (omega arith)) ]

-- ---- the sixteen positions of a block
neither_left : (a b : Bool) → (a || b) ≡ false → a ≡ false
neither_left true b e = e
neither_left false b e = refl

neither_right : (a b : Bool) → (a || b) ≡ false → b ≡ false
neither_right true b e = absurd (never refl e)
neither_right false b e = e

-- a search that found none so far, one further
pub none_next : (m : List Bool) (b : Bool) (i : ℕ) → (b ≡ false → (k : ℕ) → k < i → get_or m k false ≡ false)
    → (get_or m i false || b) ≡ false → (k : ℕ) → k < i + 1 → get_or m k false ≡ false
none_next m b i h e k l = elim (lt_or k i) [
  | inl q ↦ h (neither_right (get_or m i false) b e) k q
  | inr q ↦ let z : k ≡ i = omega arith in rw z (neither_left (get_or m i false) b e)
]

module _ (g : Edge) (t : List ℕ) where
  acting_at : (i : ℕ) → i < 16 → get_or (acting_of g t) i false ≡ acts_of (samples_across (across_of t i 16)) g.simple g.limit g.inner
  unfolding acting_of
  acting_at i h = get_or_build 16 _ i false h

  -- told whether a rule acts, a position is what the kernel makes of it
  kept_straight : (e : List ℕ) → straight_of e g.simple g.outer g.threshold (acts_of (samples_across e) g.simple g.limit g.inner) ≡ kept_of g e
  unfolding kept_of
  kept_straight e = straight_filter e g.simple g.outer g.limit g.inner g.threshold

  place : (i : ℕ) → 0 + i * 1 ≡ i
  place i = omega arith

  same_across : (i : ℕ) → i < 16 → across_of (sweep_of g 0 1 16 i t) i 16 ≡ across_of t i 16
  same_across i h =
      subst (λ (j : ℕ). across_of (sweep_of g 0 1 16 i t) j 16 ≡ across_of t j 16) (place i)
      (across_later g 0 1 16 t 16 i (spread_level (omega arith)) h)

  pub block_room : (i n : ℕ) {q : List ℕ} → q ≡ sweep_of g 0 1 16 n t → length t ≡ 128 → i < 16 → i + 112 < length q
  block_room i n s e h = rw (s, length_edge, e) (omega arith)

  -- one more
  pub block_next : (i : ℕ) {q e f : List ℕ} {m : List Bool} → i < 16 → q ≡ sweep_of g 0 1 16 i t → m ≡ acting_of g t → e ≡ across_of q i 16
      → f ≡ straight_of e g.simple g.outer g.threshold (get_or m i false) → laid_back q i 16 f 6 ≡ sweep_of g 0 1 16 (i + 1) t
  block_next i {q} {e} {f} {m} h s a r b =
      position_laid g i 16 q {e = f} (b ∙ ap (straight_of e g.simple g.outer g.threshold) told ∙ kept_straight e ∙ ap (kept_of g) r)
      ∙ subst (λ (j : ℕ). position_of g i 16 q ≡ position_of g j 16 q) (sym (place i)) refl ∙ ap (position_of g (0 + i * 1) 16) s ∙ sweep_next g 0 1 16 i t
    where
      told : get_or m i false ≡ acts_of (samples_across e) g.simple g.limit g.inner
      told = rw (a, r, s, same_across i h) (acting_at i h)

  -- where no rule acts nothing changes
  pub block_still : Bytes t → ((i : ℕ) → i < 16 → get_or (acting_of g t) i false ≡ false) → sweep_of g 0 1 16 16 t ≡ t
  unfolding kept_of
  block_still b h = go 16 (omega arith)
    where
      stays : (i : ℕ) → i < 16 → position_of g i 16 t ≡ t
      stays i l =
          position_still g i 16 t (omega arith)
          (acts_none (across_of t i 16) g.simple g.outer g.limit g.inner g.threshold (length_across t i 16) (across_bytes t i 16 b) (sym (acting_at i l) ∙ h i l))

      go : (n : ℕ) → n ≤ 16 → sweep_of g 0 1 16 n t ≡ t
      go zero l = sweep_none g 0 1 16 t
      go (suc n) l = sweep_suc g 0 1 16 n t ∙ ap (position_of g (0 + n * 1) 16) (go n (omega arith)) ∙ rw (place n) (stays n (omega arith))

-- ---- an edge of a plane by the block: n of its positions were lanes l and on, of a block c that became o
-- a place of the edge, or none
record Spot (at along step n x : ℕ) : Type 0 where
  i : ℕ
  k : ℕ
  below : i < n
  few : k < 8
  is : x ≡ at + i * along + k * step

spot_or : (at along step n x : ℕ) → Spot at along step n x ⊎ ((i k : ℕ) → i < n → k < 8 → x ≡ at + i * along + k * step → ⊥)
spot_or at along step zero x = inr (λ i k h. absurd (omega arith))
spot_or at along step (suc n) x = elim (spot_or at along step n x) [
  | inl s ↦ inl (record { i = s.i; k = s.k; below = omega (arith, s.below); few = s.few; is = s.is })
  | inr none ↦ elim (number (at + n * along) step x 8) [
    | inl m ↦ inl (record { i = n; k = m.k; below = omega arith; few = m.below; is = m.is })
    | inr e ↦ inr (λ i k h l z. elim (lt_or i n) [ inl a ↦ none i k a l z | inr a ↦ e k l (rw (same i n h a) at z) ])
  ]
]
  where
    same : (i m : ℕ) → i < suc m → m ≤ i → i ≡ m
    same i m h l = omega arith

-- n positions of the edge of p at `at` stand in the block c, from lane l on
pub record Part (at along step n l : ℕ) (p c : List ℕ) : Type 0 where
  pub any : 0 < n
  pub some : 0 < step
  pub spread : Spread along step n
  pub few : l + n ≤ 16
  pub bytes : Bytes p
  pub block : Bytes c
  pub long : length c ≡ 128
  pub room : (i : ℕ) → i < n → at + i * along + 7 * step < length p
  pub taken : (i k : ℕ) → i < n → k < 8 → get_or c (l + i + 16 * k) 0 ≡ get_or p (at + i * along + k * step) 0

module _ (g : Edge) {at along step n l : ℕ} {p c o : List ℕ} (z : Part at along step n l p c) (swept : o ≡ sweep_of g 0 1 16 16 c) where
  -- sample k of position i, in the block and in the plane
  lane : (i k : ℕ) → i < n → k < 8 → get_or o (l + i + 16 * k) 0 ≡ get_or (sweep_of g at along step n p) (at + i * along + k * step) 0
  unfolding across_of
  lane i k h m =
      rw swept (ap (λ (x : ℕ). get_or (sweep_of g 0 1 16 16 c) x 0) {x = l + i + 16 * k} {y = 0 + (l + i) * 1 + k * 16} (omega arith)
      ∙ sweep_at g 0 1 16 c 16 z.block (omega arith) (spread_level (omega arith)) (λ j q. rw z.long (omega arith)) (l + i) k (omega (arith, z.few)) m
      ∙ ap (λ (e : List ℕ). get_or (kept_of g e) k 0) same_eight
      ∙ sym (sweep_at g at along step p n z.bytes z.some z.spread z.room i k h m))
    where
      same_eight : across_of c (0 + (l + i) * 1) 16 ≡ across_of p (at + i * along) step
      same_eight = build_same 8 _ _ (λ j q. ap (λ (x : ℕ). get_or c x 0) {x = 0 + (l + i) * 1 + j * 16} {y = l + i + 16 * j} (omega arith) ∙ z.taken i j h q)

  pub swept_long : length o ≡ 128
  swept_long = rw (swept, length_edge) z.long

  -- a plane that has the block's samples in its places, and else is as before
  edge_is : {q : List ℕ} → length q ≡ length p → ((i k : ℕ) → i < n → k < 8 → get_or q (at + i * along + k * step) 0 ≡ get_or o (l + i + 16 * k) 0)
      → ((x : ℕ) → ((i k : ℕ) → i < n → k < 8 → x ≡ at + i * along + k * step → ⊥) → get_or q x 0 ≡ get_or p x 0) → q ≡ sweep_of g at along step n p
  edge_is {q} e inside off = ext_get_or 0 q (sweep_of g at along step n p) (e ∙ sym (length_edge g at along step n p)) (λ x h. at_place x)
    where
      at_place : (x : ℕ) → get_or q x 0 ≡ get_or (sweep_of g at along step n p) x 0
      at_place x = elim (spot_or at along step n x) [
        | inl s ↦ rw s.is (inside s.i s.k s.below s.few ∙ lane s.i s.k s.below s.few)
        | inr none ↦ off x none ∙ sym (edge_moves_six g at along step n p x (λ j k a o b. none j k a (omega arith)))
      ]

  -- where the block stayed, so does the plane
  pub part_still : o ≡ c → p ≡ sweep_of g at along step n p
  part_still e = edge_is refl (λ i k h m. sym (z.taken i k h m) ∙ ap (λ (x : List ℕ). get_or x (l + i + 16 * k) 0) (sym e)) (λ x h. refl)

-- ---- a level edge: eight rows of the block, 16 apart
module _ (at w : ℕ) where
  level_in : (z p : List ℕ) (l n : ℕ) → length z ≡ 128 → l + n ≤ 16 → (i k : ℕ) → i < n → k < 8 → get_or (rows_copied z l 16 p at w n 8) (l + i + 16 * k) 0 ≡ get_or p (at + i * 1 + k * w) 0
  level_in z p l n e few i k h m =
      ap (λ (x : ℕ). get_or (rows_copied z l 16 p at w n 8) x 0) {x = l + i + 16 * k} {y = l + k * 16 + i} (omega arith)
      ∙ rows_in z l 16 p at w n 8 k i (omega arith) (λ j q. rw e (omega arith)) m h ∙ ap (λ (x : ℕ). get_or p x 0) {x = at + k * w + i} {y = at + i * 1 + k * w} (omega arith)

  level_off : (z p : List ℕ) (l n : ℕ) → l + n ≤ 16 → (j k : ℕ) → j < 16 → Off l n j → get_or (rows_copied z l 16 p at w n 8) (j + 16 * k) 0 ≡ get_or z (j + 16 * k) 0
  level_off z p l n few j k h (inl o) = rows_off z l 16 p at w n 8 (j + 16 * k) (λ r c a b e. omega arith)
  level_off z p l n few j k h (inr o) = rows_off z l 16 p at w n 8 (j + 16 * k) (λ r c a b e. omega arith)

  module _ {n l : ℕ} {p c : List ℕ} (any : 0 < n) (wide : n ≤ w) (few : l + n ≤ 16) (room : at + 7 * w + n ≤ length p) (bytes : Bytes p) (block : Bytes c) (long : length c ≡ 128) where
    level_part : ((i k : ℕ) → i < n → k < 8 → get_or c (l + i + 16 * k) 0 ≡ get_or p (at + i * 1 + k * w) 0) → Part at 1 w n l p c
    level_part taken =
        record { any = any; some = omega arith; spread = spread_level wide; few = few; bytes = bytes; block = block; long = long; room = λ i h. omega arith; taken = taken }

  pub level_end : (g : Edge) {n l : ℕ} {p c o q : List ℕ} → Part at 1 w n l p c → n ≤ w → o ≡ sweep_of g 0 1 16 16 c → q ≡ rows_copied p at w o l 16 n 8 → q ≡ sweep_of g at 1 w n p
  level_end g {n} {l} {p} {c} {o} {q} z wide swept e =
      edge_is g z swept (rw e (length_rows p at w o l 16 n 8))
      (λ i k h m. rw e (ap (λ (x : ℕ). get_or (rows_copied p at w o l 16 n 8) x 0) {x = at + i * 1 + k * w} {y = at + k * w + i} (omega arith) ∙ rows_in p at w o l 16 n 8 k i wide room m h ∙ ap (λ (x : ℕ). get_or o x 0) {x = l + k * 16 + i} {y = l + i + 16 * k} (omega arith)))
      (λ x none. rw e (rows_off p at w o l 16 n 8 x (λ r k a b f. none k r b a (omega arith))))
    where
      room : (k : ℕ) → k < 8 → at + k * w + n ≤ length p
      room k h = omega (arith, z.room (n - 1) (omega (arith, z.any)), z.any, mul-le-mul_right {m = k} {n = 7} w (omega arith))

-- ---- an upright edge: sixteen rows of the block, 8 apart, and then its columns
module _ (at w : ℕ) where
  upright_in : (z p : List ℕ) (l n : ℕ) → length z ≡ 128 → l + n ≤ 16 → (i k : ℕ) → i < n → k < 8 → get_or (rows_copied z (8 * l) 8 p at w 8 n) (8 * (l + i) + k) 0 ≡ get_or p (at + i * w + k * 1) 0
  upright_in z p l n e few i k h m =
      ap (λ (x : ℕ). get_or (rows_copied z (8 * l) 8 p at w 8 n) x 0) {x = 8 * (l + i) + k} {y = 8 * l + i * 8 + k} (omega arith)
      ∙ rows_in z (8 * l) 8 p at w 8 n i k (omega arith) (λ j q. rw e (omega arith)) h m ∙ ap (λ (x : ℕ). get_or p x 0) {x = at + i * w + k} {y = at + i * w + k * 1} (omega arith)

  upright_off : (z p : List ℕ) (l n : ℕ) → (j k : ℕ) → k < 8 → Off l n j → get_or (rows_copied z (8 * l) 8 p at w 8 n) (8 * j + k) 0 ≡ get_or z (8 * j + k) 0
  upright_off z p l n j k h (inl o) = rows_off z (8 * l) 8 p at w 8 n (8 * j + k) (λ r c a b e. omega arith)
  upright_off z p l n j k h (inr o) = rows_off z (8 * l) 8 p at w 8 n (8 * j + k) (λ r c a b e. omega arith)

  module _ {n l : ℕ} {p : List ℕ} (t : List ℕ) (any : 0 < n) (wide : 8 ≤ w) (few : l + n ≤ 16) (room : (i : ℕ) → i < n → at + i * w + 8 ≤ length p) (bytes : Bytes p) (block : Bytes t) where
    upright_part : ((i k : ℕ) → i < n → k < 8 → get_or t (8 * (l + i) + k) 0 ≡ get_or p (at + i * w + k * 1) 0) → Part at w 1 n l p (columns_of t)
    upright_part taken =
        record {
          any = any;
          some = omega arith;
          spread = spread_upright wide;
          few = few;
          bytes = bytes;
          block = columns_bytes t block;
          long = length_columns t;
          room = λ i h. omega (arith, room i h);
          taken = λ i k h m. columns_at t (l + i) k (omega arith) m ∙ taken i k h m;
        }

  pub upright_end : (g : Edge) {n l : ℕ} {p c o q : List ℕ} → Part at w 1 n l p c → 8 ≤ w → o ≡ sweep_of g 0 1 16 16 c → q ≡ rows_copied p at w (sample_rows o) (8 * l) 8 8 n → q ≡ sweep_of g at w 1 n p
  upright_end g {n} {l} {p} {c} {o} {q} z wide swept e =
      edge_is g z swept (rw e (length_rows p at w (sample_rows o) (8 * l) 8 8 n))
      (λ i k h m. rw e (ap (λ (x : ℕ). get_or (rows_copied p at w (sample_rows o) (8 * l) 8 8 n) x 0) {x = at + i * w + k * 1} {y = at + i * w + k} (omega arith) ∙ rows_in p at w (sample_rows o) (8 * l) 8 8 n i k wide (λ j a. omega (arith, z.room j a)) h m
      ∙ ap (λ (x : ℕ). get_or (sample_rows o) x 0) {x = 8 * l + i * 8 + k} {y = 8 * (l + i) + k} (omega arith) ∙ rows_at o (l + i) k (omega (arith, z.few)) m))
      (λ x none. rw e (rows_off p at w (sample_rows o) (8 * l) 8 8 n x (λ r k a b f. none r k a b (omega arith))))

-- rows that end with the last of them
pub row_room : (at w m n : ℕ) {len : ℕ} → at + m * w + n ≤ len → (i : ℕ) → i ≤ m → at + i * w + n ≤ len
row_room at w m n h i l = omega (arith, h, mul-le-mul_right {m = i} {n = m} w l)

-- ---- the four ways into a block
zeros : Bytes (replicate 128 0)
zeros j = rw (get_or_constant {A = ℕ} 128 j 0) (omega arith)

module _ (at w : ℕ) (p : List ℕ) (bp : Bytes p) where
  -- one plane, sixteen positions
  abbrev level_one : List ℕ
  level_one = rows_copied (replicate 128 0) 0 16 p at w 16 8

  pub level_one_lem : {t : List ℕ} → at + 7 * w + 16 ≤ length p → 16 ≤ w → t ≡ level_one → Part at 1 w 16 0 p t
  level_one_lem {t} room wide e =
      rw e (level_part at w (omega arith) wide (omega arith) room bp (rows_bytes (replicate 128 0) 0 16 p at w 16 8 zeros bp) (length_rows (replicate 128 0) 0 16 p at w 16 8)
      (level_in at w (replicate 128 0) p 0 16 refl (omega arith)))

  pub upright_one : {c : List ℕ} → at + 15 * w + 8 ≤ length p → 8 ≤ w → c ≡ columns_of (rows_copied (replicate 128 0) 0 8 p at w 8 16) → Part at w 1 16 0 p c
  upright_one {c} room wide e =
      rw e (upright_part at w (rows_copied (replicate 128 0) 0 8 p at w 8 16) (omega arith) wide (omega arith) (λ i h. omega (arith, mul-le-mul_right {m = i} {n = 15} w (omega arith))) bp (rows_bytes (replicate 128 0) 0 8 p at w 8 16 zeros bp)
      (upright_in at w (replicate 128 0) p 0 16 refl (omega arith)))

  -- two planes, eight positions of each
  module _ (q : List ℕ) (bq : Bytes q) (room : at + 7 * w + 8 ≤ length p) (room-q : at + 7 * w + 8 ≤ length q) (wide : 8 ≤ w) where
    abbrev level_first : List ℕ
    level_first = rows_copied (replicate 128 0) 0 16 p at w 8 8

    abbrev level_two : List ℕ
    level_two = rows_copied level_first 8 16 q at w 8 8

    level_bytes : Bytes level_two
    level_bytes = rows_bytes level_first 8 16 q at w 8 8 (rows_bytes (replicate 128 0) 0 16 p at w 8 8 zeros bp) bq

    level_long : length level_first ≡ 128
    level_long = length_rows (replicate 128 0) 0 16 p at w 8 8

    pub level_two_lem : {t : List ℕ} → t ≡ level_two → Part at 1 w 8 0 p t × Part at 1 w 8 8 q t
    level_two_lem {t} e = rw e (
      level_part at w (omega arith) wide (omega arith) room bp level_bytes (length_rows level_first 8 16 q at w 8 8 ∙ level_long)
          (λ i k h m. level_off at w level_first q 8 8 (omega arith) (0 + i) k (omega arith) (inl (omega arith)) ∙ level_in at w (replicate 128 0) p 0 8 refl (omega arith) i k h m),
      level_part at w (omega arith) wide (omega arith) room-q bq level_bytes (length_rows level_first 8 16 q at w 8 8 ∙ level_long) (level_in at w level_first q 8 8 level_long (omega arith)),
    )

    abbrev upright_first : List ℕ
    upright_first = rows_copied (replicate 128 0) 0 8 p at w 8 8

    abbrev upright_two : List ℕ
    upright_two = rows_copied upright_first 64 8 q at w 8 8

    upright_bytes : Bytes upright_two
    upright_bytes = rows_bytes upright_first 64 8 q at w 8 8 (rows_bytes (replicate 128 0) 0 8 p at w 8 8 zeros bp) bq

    pub upright_two_lem : {c : List ℕ} → c ≡ columns_of upright_two → Part at w 1 8 0 p c × Part at w 1 8 8 q c
    upright_two_lem {c} e =
        let seven : (i : ℕ) → i < 8 → i * w ≤ 7 * w = λ i h. mul-le-mul_right {m = i} {n = 7} w (omega arith) in rw e (
          upright_part at w upright_two (omega arith) wide (omega arith) (λ i h. omega (arith, seven i h)) bp upright_bytes
              (λ i k h m. upright_off at w upright_first q 8 8 (0 + i) k m (inl (omega arith)) ∙ upright_in at w (replicate 128 0) p 0 8 refl (omega arith) i k h m),
          upright_part at w upright_two (omega arith) wide (omega arith) (λ i h. omega (arith, seven i h)) bq upright_bytes
              (upright_in at w upright_first q 8 8 (length_rows (replicate 128 0) 0 8 p at w 8 8) (omega arith)),
        )
