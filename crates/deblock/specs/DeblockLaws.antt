-- Laws of deblocking that the proofs of the code cite: changes one after the other, and what one position does.
use Rattle.std.specs.Prelude.{◌+◌, ◌-◌, ◌*◌, ◌/◌, ◌%◌, ◌≤◌, ◌<◌, ◌≡◌}
use Rattle.numbers.specs.Words.{ℕ, zero, suc, add-one, mul-le-mul_right, suc-mul, arith, refl, sym, ◌∙◌, ap, Bool, true, false, not, inl, inr, eqb, lt_or, never, eq-eqb, eqb-false, ne_eqb, List, length, get_or, set, length-set, ext_get_or, get_or-set_other, get_or-set_same, set-get_or, set_keeps, length_build, get_or_build, get_or_build_past}
use Rattle.filter.specs.declared.strengths.Strength.{Strength}
use Rattle.lent.specs.Memory.{strength_at_of}
use Rattle.filter.specs.KernelLaws.{Bytes, filter_bytes, outermost_stay}
use Rattle.deblock.specs.Deblock.{Edge, Change, turns, when, across_of, laid_back, kept_of, position_of, sweep_of, vertical_edges, horizontal_edges, inner_at, inners_of, outer_edge, inner_edge_of, square_of, macroblock_edges, raster_of}

-- ---- changes one after the other
pub turns_none : (f : ℕ → Change) (p : List ℕ) → turns f 0 p ≡ p
unfolding turns
turns_none f p = refl

pub turns_next : (f : ℕ → Change) (n : ℕ) (p : List ℕ) → f n (turns f n p) ≡ turns f (n + 1) p
unfolding turns
turns_next f n p = rw add-one

pub when_yes : (b : Bool) (f : Change) {p q : List ℕ} → b ≡ true → q ≡ f p → q ≡ when b f p
unfolding when
when_yes true f e h = h
when_yes false f e h = absurd (never e refl)

pub when_no : (b : Bool) (f : Change) {p q : List ℕ} → b ≡ false → q ≡ p → q ≡ when b f p
unfolding when
when_no true f e h = absurd (never refl e)
when_no false f e h = h

-- ---- a law of changes that holds of none and of one after another
pub record Closed (Φ : Change → Type 0) : Type 0 where
  pub none : Φ (λ p. p)
  pub then : (f g : Change) → Φ f → Φ g → Φ (λ p. g (f p))

module _ {Φ : Change → Type 0} (z : Closed Φ) where
  pub turns_closed : (f : ℕ → Change) (n : ℕ) → ((k : ℕ) → k < n → Φ (f k)) → Φ (turns f n)
  unfolding turns
  turns_closed f zero h = z.none
  turns_closed f (suc n) h = z.then (turns f n) (f n) (turns_closed f n (λ k l. h k (omega arith))) (h n (omega arith))

  pub when_closed : (b : Bool) (f : Change) → (b ≡ true → Φ f) → Φ (when b f)
  unfolding when
  when_closed true f h = h refl
  when_closed false f h = z.none

-- ---- the samples of one position, read and laid back
module _ (p : List ℕ) (at step : ℕ) where
  pub across_at : (k : ℕ) → k < 8 → get_or (across_of p at step) k 0 ≡ get_or p (at + k * step) 0
  unfolding across_of
  across_at k h = get_or_build 8 _ k 0 h

  pub length_across : length (across_of p at step) ≡ 8
  unfolding across_of
  length_across = length_build 8 _

  across_past : (k : ℕ) → 8 ≤ k → get_or (across_of p at step) k 0 ≡ 0
  unfolding across_of
  across_past k h = get_or_build_past 8 _ k 0 h

  pub across_bytes : Bytes p → Bytes (across_of p at step)
  across_bytes b k = elim (lt_or k 8) [
    | inl h ↦ rw (across_at k h) (b (at + k * step))
    | inr h ↦ rw (across_past k h) (omega arith)
  ]

  module _ (e : List ℕ) where
    pub laid_first : laid_back p at step e 0 ≡ p
    unfolding laid_back
    laid_first = refl

    pub laid_next : (n : ℕ) → set (laid_back p at step e n) (at + (n + 1) * step) (get_or e (n + 1) 0) ≡ laid_back p at step e (n + 1)
    unfolding laid_back
    laid_next n = rw add-one

    pub length_laid : (n : ℕ) → length (laid_back p at step e n) ≡ length p
    unfolding laid_back
    length_laid zero = refl
    length_laid (suc n) = length-set (laid_back p at step e n) (at + suc n * step) (get_or e (suc n) 0) ∙ length_laid n

    -- a place that none of the n is
    pub laid_other : (n i : ℕ) → ((k : ℕ) → k ≤ n → 0 < k → i ≡ at + k * step → ⊥) → get_or (laid_back p at step e n) i 0 ≡ get_or p i 0
    unfolding laid_back
    laid_other zero i h = refl
    laid_other (suc n) i h =
        get_or-set_other (laid_back p at step e n) (at + suc n * step) i (get_or e (suc n) 0) 0 (h (suc n) (omega arith) (omega arith)) ∙ laid_other n i (λ k l. h k (omega arith))

    -- a sample that stays need not be laid
    abbrev Stays : ℕ → Type 0
    Stays k = get_or e k 0 ≡ get_or p (at + k * step) 0

    module _ (some : 0 < step) where
      further : (n m : ℕ) → n < m → at + m * step ≡ at + n * step → ⊥
      further n m h z = omega (arith, mul-le-mul_right {m = suc n} {n = m} step h, suc-mul n step)

      skip : (n : ℕ) → Stays (suc n) → laid_back p at step e (suc n) ≡ laid_back p at step e n
      unfolding laid_back
      skip n h =
          let v : get_or e (suc n) 0 ≡ get_or (laid_back p at step e n) (at + suc n * step) 0 = h ∙ sym (laid_other n (at + suc n * step) (λ k l o. further k (suc n) (omega arith))) in
          rw v (set-get_or (laid_back p at step e n) (at + suc n * step) 0)

      -- where all stay, laying them changes nothing
      pub laid_none : ((k : ℕ) → k < 8 → Stays k) → p ≡ laid_back p at step e 6
      laid_none h =
          sym (skip 5 (h 6 (omega arith)) ∙ skip 4 (h 5 (omega arith)) ∙ skip 3 (h 4 (omega arith)) ∙ skip 2 (h 3 (omega arith)) ∙ skip 1 (h 2 (omega arith)) ∙ skip 0 (h 1 (omega arith)) ∙ laid_first)

      -- each of them stands in its place
      pub laid_at : (n k : ℕ) → k ≤ n → 0 < k → at + n * step < length p → get_or (laid_back p at step e n) (at + k * step) 0 ≡ get_or e k 0
      unfolding laid_back
      laid_at zero k h o l = absurd (omega arith)
      laid_at (suc n) k h o l = elim (lt_or k (suc n)) [
        | inl g ↦ get_or-set_other (laid_back p at step e n) (at + suc n * step) (at + k * step) (get_or e (suc n) 0) 0 (λ z. further k (suc n) g (sym z)) ∙ laid_at n k (omega arith) o (omega (arith, suc-mul n step))
        | inr g ↦ let z : k ≡ suc n = omega arith in rw z (get_or-set_same (laid_back p at step e n) (at + suc n * step) (get_or e (suc n) 0) 0 (rw (length_laid n) l))
      ]

-- ---- one position
-- the samples that the kernel gives, laid
pub position_laid : (g : Edge) (at step : ℕ) (p : List ℕ) {e : List ℕ} → e ≡ kept_of g (across_of p at step) → laid_back p at step e 6 ≡ position_of g at step p
unfolding position_of
position_laid g at step p h = rw h

-- where the kernel leaves them, nothing changes
pub position_still : (g : Edge) (at step : ℕ) (p : List ℕ) → 0 < step → kept_of g (across_of p at step) ≡ across_of p at step → position_of g at step p ≡ p
unfolding position_of
position_still g at step p some h = rw h (sym (laid_none p at step (across_of p at step) some (λ k l. across_at p at step k l)))

laid_bytes : (p : List ℕ) (at step : ℕ) (e : List ℕ) (n : ℕ) → Bytes p → Bytes e → Bytes (laid_back p at step e n)
unfolding laid_back
laid_bytes p at step e zero b c = b
laid_bytes p at step e (suc n) b c = set_keeps (λ (v : ℕ). v < 256) (laid_back p at step e n) (at + suc n * step) (get_or e (suc n) 0) 0 (c (suc n)) (laid_bytes p at step e n b c)

pub position_bytes : (g : Edge) (at step : ℕ) (p : List ℕ) → Bytes p → Bytes (position_of g at step p)
unfolding position_of kept_of
position_bytes g at step p b = laid_bytes p at step _ 6 b (filter_bytes (across_of p at step) g.simple g.outer g.limit g.inner g.threshold)

-- ---- what a position does, sample by sample
kept_outer : (g : Edge) (e : List ℕ) → Bytes e → (get_or (kept_of g e) 0 0 ≡ get_or e 0 0) × (get_or (kept_of g e) 7 0 ≡ get_or e 7 0)
unfolding kept_of
kept_outer g e b = outermost_stay e g.simple g.outer g.limit g.inner g.threshold b

module _ (g : Edge) (at step : ℕ) (p : List ℕ) where
  pub length_position : length (position_of g at step p) ≡ length p
  unfolding position_of
  length_position = length_laid p at step _ 6

  -- a place that is none of the eight
  pub position_off : (i : ℕ) → ((k : ℕ) → k < 8 → i ≡ at + k * step → ⊥) → get_or (position_of g at step p) i 0 ≡ get_or p i 0
  unfolding position_of
  position_off i h = laid_other p at step _ 6 i (λ k l o. h k (omega arith))

  -- each of the eight is what the kernel makes of it
  pub position_at : Bytes p → 0 < step → at + 7 * step < length p → (k : ℕ) → k < 8 → get_or (position_of g at step p) (at + k * step) 0 ≡ get_or (kept_of g (across_of p at step)) k 0
  unfolding position_of
  position_at b some l k h = elim (lt_or 0 k) [
    | inl o ↦ elim (lt_or k 7) [
      | inl q ↦ laid_at p at step _ some 6 k (omega arith) o (omega arith)
      | inr q ↦ let z : k ≡ 7 = omega arith in rw z (laid_other p at step _ 6 (at + 7 * step) (λ j i o. further p at step (across_of p at step) some j 7 (omega arith)) ∙ sym (across_at p at step 7 (omega arith)) ∙ sym kept_outermost.1)
    ]
    | inr o ↦ let z : k ≡ 0 = omega arith in rw z (laid_other p at step _ 6 (at + 0 * step) (λ j i o e. further p at step (across_of p at step) some 0 j o (sym e)) ∙ sym (across_at p at step 0 (omega arith)) ∙ sym kept_outermost.0)
  ]
    where
      kept_outermost : (get_or (kept_of g (across_of p at step)) 0 0 ≡ get_or (across_of p at step) 0 0) × (get_or (kept_of g (across_of p at step)) 7 0 ≡ get_or (across_of p at step) 7 0)
      kept_outermost = kept_outer g (across_of p at step) (across_bytes p at step b)

-- ---- what holds of the edges of a square holds of the square, and so on
pub not_zero : (k : ℕ) → not (eqb k 0) ≡ true → k ≡ 0 → ⊥
not_zero k e = eqb-false k 0 (falsely (eqb k 0) e)
  where
    falsely : (b : Bool) → not b ≡ true → b ≡ false
    falsely true e = sym e
    falsely false e = refl

module _ {Φ : Change → Type 0} (z : Closed Φ) where
  pub inners_closed : (upright : Bool) (g : Edge) (w x y n : ℕ) → ((j : ℕ) → j < n / 4 - 1 → Φ (inner_at upright g w x y n j)) → Φ (inners_of upright g w x y n)
  unfolding inners_of
  inners_closed upright g w x y n h = turns_closed z _ (n / 4 - 1) h

  pub square_closed : (simple : Bool) (t : Strength) (w n column row : ℕ)
      → ((column ≡ 0 → ⊥) → Φ (vertical_edges (outer_edge simple t) w (column * n) (row * n) n))
      → Φ (inners_of true (inner_edge_of simple t) w (column * n) (row * n) n)
      → ((row ≡ 0 → ⊥) → Φ (horizontal_edges (outer_edge simple t) w (column * n) (row * n) n))
      → Φ (inners_of false (inner_edge_of simple t) w (column * n) (row * n) n)
      → Φ (square_of simple t w n column row)
  unfolding square_of
  square_closed simple t w n column row a b c d =
      let f = when_closed z (not (eqb column 0)) _ (λ e. a (not_zero column e)) in
      let g = when_closed z (eqb t.inside 1) _ (λ e. b) in
      let h = when_closed z (not (eqb row 0)) _ (λ e. c (not_zero row e)) in
      let k = when_closed z (eqb t.inside 1) _ (λ e. d) in
      z.then _ _ (z.then _ _ (z.then _ _ f g) h) k

-- no change makes a plane longer or shorter
abbrev Even : Change → Type 0
Even f = (p : List ℕ) → length (f p) ≡ length p

even_closed : Closed Even
even_closed = record { none = λ p. refl; then = λ f g h k p. k (f p) ∙ h p }

pub length_edge : (g : Edge) (at along step n : ℕ) → Even (sweep_of g at along step n)
unfolding sweep_of
length_edge g at along step n = turns_closed even_closed _ n (λ i h. length_position g (at + i * along) step)

-- and none changes a plane that is empty
pub empty_edge : (g : Edge) (at along step n : ℕ) (p : List ℕ) → length p ≡ 0 → p ≡ sweep_of g at along step n p
empty_edge g at along step n p e = ext_get_or 0 p (sweep_of g at along step n p) (sym (length_edge g at along step n p)) (λ i h. absurd (omega (arith, e)))

module _ (g : Edge) (w x y n : ℕ) where
  pub length_vertical : Even (vertical_edges g w x y n)
  unfolding vertical_edges
  length_vertical = length_edge g _ w 1 n

  pub length_horizontal : Even (horizontal_edges g w x y n)
  unfolding horizontal_edges
  length_horizontal = length_edge g _ 1 w n

-- an inner edge of either direction
module _ (g : Edge) (w x y n j : ℕ) (p : List ℕ) {q : List ℕ} where
  pub inner_vertical : (upright : Bool) → upright ≡ true → q ≡ vertical_edges g w (x + 4 * j + 4) y n p → q ≡ inner_at upright g w x y n j p
  unfolding inner_at
  inner_vertical true e h = h
  inner_vertical false e h = absurd (never e refl)

  pub inner_horizontal : (upright : Bool) → upright ≡ false → q ≡ horizontal_edges g w x (y + 4 * j + 4) n p → q ≡ inner_at upright g w x y n j p
  unfolding inner_at
  inner_horizontal true e h = absurd (never refl e)
  inner_horizontal false e h = h

length_inner : (upright : Bool) (g : Edge) (w x y n j : ℕ) → Even (inner_at upright g w x y n j)
unfolding inner_at
length_inner true g w x y n j = length_vertical g w (x + 4 * j + 4) y n
length_inner false g w x y n j = length_horizontal g w x (y + 4 * j + 4) n

pub length_turns : (upright : Bool) (g : Edge) (w x y n k : ℕ) → Even (turns (inner_at upright g w x y n) k)
length_turns upright g w x y n k = turns_closed even_closed _ k (λ j h. length_inner upright g w x y n j)

pub length_inners : (upright : Bool) (g : Edge) (w x y n : ℕ) → Even (inners_of upright g w x y n)
length_inners upright g w x y n = inners_closed even_closed upright g w x y n (λ j h. length_inner upright g w x y n j)

pub length_square : (simple : Bool) (t : Strength) (w n column row : ℕ) → Even (square_of simple t w n column row)
length_square simple t w n column row =
    square_closed even_closed simple t w n column row (λ e. length_vertical _ w _ _ n) (length_inners true _ w _ _ n) (λ e. length_horizontal _ w _ _ n) (length_inners false _ w _ _ n)

pub length_block : (simple : Bool) (strengths : List ℕ) (n wide k : ℕ) → Even (macroblock_edges simple strengths n wide k)
unfolding macroblock_edges
length_block simple strengths n wide k = when_closed even_closed _ _ (λ e. length_square simple _ _ n _ _)

pub length_plane : (simple : Bool) (strengths : List ℕ) (n wide m : ℕ) → Even (raster_of simple strengths n wide m)
unfolding raster_of
length_plane simple strengths n wide m = turns_closed even_closed _ m (λ k h. length_block simple strengths n wide k)

pub length_when : (b : Bool) (f : Change) → Even f → Even (when b f)
length_when b f h = when_closed even_closed b f (λ e. h)

pub when_long : (b : Bool) (f : Change) (p : List ℕ) {q : List ℕ} → q ≡ when b f p → Even f → length q ≡ length p
when_long b f p e h = rw e (length_when b f h p)

-- ---- a square by its four parts
pub square_is : (simple : Bool) (t : Strength) (w n column row : ℕ) (p : List ℕ) {a b c d : List ℕ}
    → a ≡ when (not (eqb column 0)) (vertical_edges (outer_edge simple t) w (column * n) (row * n) n) p
    → b ≡ when (eqb t.inside 1) (inners_of true (inner_edge_of simple t) w (column * n) (row * n) n) a
    → c ≡ when (not (eqb row 0)) (horizontal_edges (outer_edge simple t) w (column * n) (row * n) n) b
    → d ≡ when (eqb t.inside 1) (inners_of false (inner_edge_of simple t) w (column * n) (row * n) n) c
    → d ≡ square_of simple t w n column row p
unfolding square_of
square_is simple t w n column row p e f g h = rw (← e, ← f, ← g) h

-- ---- a plane, one macroblock further
module _ (simple : Bool) (strengths : List ℕ) (n wide : ℕ) where
  pub plane_none : (p : List ℕ) → raster_of simple strengths n wide 0 p ≡ p
  unfolding raster_of
  plane_none p = turns_none _ p

  pub plane_next : (k : ℕ) (p : List ℕ) → macroblock_edges simple strengths n wide k (raster_of simple strengths n wide k p) ≡ raster_of simple strengths n wide (k + 1) p
  unfolding raster_of
  plane_next k p = turns_next _ k p

  pub block_yes : (k : ℕ) (p : List ℕ) {t : Strength} {q : List ℕ} → t ≡ strength_at_of strengths k → (t.limit ≡ 0 → ⊥) → q ≡ square_of simple t (wide * n) n (k % wide) (k / wide) p → q ≡ macroblock_edges simple strengths n wide k p
  unfolding macroblock_edges
  block_yes k p e h s = when_yes _ _ (ap not (ne_eqb _ 0 (rw e at h))) (rw e at s)

  pub block_no : (k : ℕ) {t : Strength} {p q : List ℕ} → t ≡ strength_at_of strengths k → t.limit ≡ 0 → q ≡ p → q ≡ macroblock_edges simple strengths n wide k p
  unfolding macroblock_edges
  block_no k e h s = when_no _ _ (ap not (eq-eqb _ 0 (rw e at h))) s

  pub plane_turn : (k : ℕ) (p : List ℕ) {q r : List ℕ} → q ≡ raster_of simple strengths n wide k p → r ≡ macroblock_edges simple strengths n wide k q → r ≡ raster_of simple strengths n wide (k + 1) p
  plane_turn k p e h = h ∙ rw e (plane_next k p)
