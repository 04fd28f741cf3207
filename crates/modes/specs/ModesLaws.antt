-- The laws of the modes' grammars: what code and callers cite.
use Rattle.std.specs.Prelude.{◌+◌, ◌-◌, ◌*◌, ◌/◌, ◌%◌, ◌≤◌, ◌<◌, ◌≡◌, ◌∷◌}
use Rattle.numbers.specs.Words.{ℕ, zero, suc, arith, refl, ◌∙◌, Bool, true, false, ⊎_elim, ltb, lit<, lit≤, lt_or, eq_or, never, both_left, both_right, both_true, eq-eqb, le-ltb, lt-ltb, ltb-true, ne_eqb, List, [], length, get_or, set, replicate, length-set, set_keeps, all_at, all_of_lem, all_of_any, ℤ}
use Rattle.reader.specs.ReadingLaws.{Bytes, within_bind, within_more, within_symbol}
use Rattle.reader.specs.Reading.{Reading, Within, ends}
use Rattle.header.specs.declared.frame.Announced.{Announced}
use Rattle.header.specs.FrameLaws.{Probabilities}
use Rattle.reader.specs.TreesLaws.{leaves_reached, walk_below}
use Rattle.modes.specs.Table.{probabilities}
use Rattle.modes.specs.TableLaws.{probabilities_bytes}
use Rattle.modes.specs.Modes.{Prefix, Modes, seg_tree, y_tree, uv_tree, b_tree, tree, optional, segment, skip, prefix, large_mode_of, block_mode_of, mode_above_of, mode_left_of, small_from, zeros, small_modes_of, luma, modes_of, bottom_of, right_of, each_below_of, contexts_of}
unfoldable pub use Rattle.modes.specs.Modes.{byte_leaves}
pub use Rattle.modes.specs.Modes.{Luma, InRange}

pub each_fact : (m : ℕ) (l : List ℕ) → 0 < m → each_below_of m l ≡ true → (j : ℕ) → get_or l j 0 < m
each_fact m l h e j = ltb-true (get_or l j 0) m (all_of_any (λ x. ltb x m) l 0 (lt-ltb 0 m h) e j)

-- the same of places within the list, and back
pub each_at : (m : ℕ) (l : List ℕ) → each_below_of m l ≡ true → (j : ℕ) → j < length l → get_or l j 0 < m
each_at m l e j h = ltb-true (get_or l j 0) m (all_of_lem (λ x. ltb x m) l 0 e j h)

all_from : (m i : ℕ) (l : List ℕ) → ((j : ℕ) → j < length l → get_or l j 0 < m) → all_at (λ i x. ltb x m) i l ≡ true
all_from m i [] h = refl
all_from m i (x ∷ xs) h = both_true (lt-ltb x m (h 0 (omega arith))) (all_from m (suc i) xs (λ j k. h (suc j) (omega arith)))

pub each_all : (m : ℕ) (l : List ℕ) → ((j : ℕ) → j < length l → get_or l j 0 < m) → each_below_of m l ≡ true
each_all m l h = all_from m 0 l h

-- what a context's test says, and what shows it
pub modes_fact : (l : List ℕ) → each_below_of 10 l ≡ true → Modes l
modes_fact l e = each_fact 10 l (lit< tt) e

pub modes_test : (l : List ℕ) → Modes l → each_below_of 10 l ≡ true
modes_test l m = each_all 10 l (λ j h. m j)

pub above_fact : (above left : List ℕ) → contexts_of above left ≡ true → Modes above
above_fact above left e = modes_fact above (both_left _ _ e)

pub left_fact : (above left : List ℕ) → contexts_of above left ≡ true → Modes left
left_fact above left e = modes_fact left (both_right (each_below_of 10 above) _ e)

-- ---- trees: all may be walked with enough probabilities, and every path ends in time at a mode
-- of a constant tree `refl` answers the test
pub byte_leaves_lem : (t : List ℤ) → leaves_reached 32 (λ v. ltb v 256) t 0 ≡ true → byte_leaves t ≡ true
unfolding byte_leaves
byte_leaves_lem t e = e

pub leaves_within : (ps : List ℕ) (t : List ℤ) → Bytes ps → byte_leaves t ≡ true → Within (λ v. v < 256) 32 (tree ps t)
unfolding byte_leaves
leaves_within ps t y e = walk_below 32 32 256 ps t 0 (lit≤ tt) y e

list_bytes : (ps : List ℕ) → each_below_of 256 ps ≡ true → Bytes ps
list_bytes ps e = each_fact 256 ps (lit< tt) e

-- ---- before the modes
optional_within : {A : Type 0} {P : A → Type 0} {n : ℕ} (b : Bool) (a : A) {m : Reading A} → P a → Within P n m → Within P n (optional b a m)
optional_within true a h w = w
optional_within false a h w = ends h

module _ (a : Announced) (y : Probabilities a) where
  pub segment_within : Within (λ v. v < 4) 2 (segment a)
  unfolding segment
  segment_within = optional_within a.map 0 (lit< tt) (walk_below 2 32 4 a.map_probabilities seg_tree 0 (lit≤ tt) y.map refl)

  pub skip_within : Within (λ (b : Bool). Unit {0}) 1 (skip a)
  unfolding skip
  skip_within = optional_within a.skips false tt (within_symbol y.skip)

  pub prefix_within : Within (λ (p : Prefix). p.segment < 4) 4 (prefix a)
  unfolding prefix
  prefix_within =
      within_bind {k = 2} segment_within (λ v l.
      within_bind {k = 1} skip_within (λ b t.
      within_bind {k = 0} (within_symbol (lit< tt)) (λ d t. ends l)))

-- ---- large and small modes
pub large_within : (chroma : Bool) → Within (λ v. v < 4) 3 (large_mode_of chroma)
large_within true = walk_below 3 32 4 (142 ∷ 114 ∷ 183 ∷ []) uv_tree 0 (lit≤ tt) (list_bytes (142 ∷ 114 ∷ 183 ∷ []) refl) refl
large_within false = within_more {n = 2} (omega arith) (walk_below 2 32 4 (156 ∷ 163 ∷ 128 ∷ []) y_tree 0 (lit≤ tt) (list_bytes (156 ∷ 163 ∷ 128 ∷ []) refl) refl)

pub block_within : (above left : ℕ) → Within (λ v. v < 10) 7 (block_mode_of above left)
block_within above left = walk_below 7 32 10 (probabilities above left) b_tree 0 (lit≤ tt) (probabilities_bytes above left) refl

-- the mode above a small block, and the mode left of it
module _ (l modes : List ℕ) (i : ℕ) where
  pub above_first : i < 4 → get_or l i 0 ≡ mode_above_of l modes i
  unfolding mode_above_of
  above_first h = rw (lt-ltb i 4 h, mode_above_of)

  pub above_later : 4 ≤ i → get_or modes (i - 4) 0 ≡ mode_above_of l modes i
  unfolding mode_above_of
  above_later h = rw (le-ltb i 4 h, mode_above_of)

  pub left_first : i % 4 ≡ 0 → get_or l (i / 4) 0 ≡ mode_left_of l modes i
  unfolding mode_left_of
  left_first h = rw (eq-eqb (i % 4) 0 h, mode_left_of)

  pub left_later : (i % 4 ≡ 0 → ⊥) → get_or modes (i - 1) 0 ≡ mode_left_of l modes i
  unfolding mode_left_of
  left_later h = rw (ne_eqb (i % 4) 0 h, mode_left_of)

  pub above_mode : Modes l → Modes modes → mode_above_of l modes i < 10
  above_mode t m = ⊎_elim (λ h. rw (above_first h) at (t i)) (λ h. rw (above_later h) at (m (i - 4))) (lt_or i 4)

  pub left_mode : Modes l → Modes modes → mode_left_of l modes i < 10
  left_mode t m = ⊎_elim (λ h. rw (left_first h) at (t (i / 4))) (λ h. rw (left_later h) at (m (i - 1))) (eq_or (i % 4) 0)

pub set_modes : (l : List ℕ) (i v : ℕ) → v < 10 → Modes l → Modes (set l i v)
set_modes l i v h m = set_keeps (λ x. x < 10) l i v 0 h m

pub zeros_modes : Modes zeros
zeros_modes = each_fact 10 zeros (lit< tt) refl

small_within : (n i : ℕ) (above left modes : List ℕ) → length modes ≡ 16 → Modes modes → Within (Luma true) (n * 7) (small_from n i above left modes)
unfolding small_from
small_within zero i above left modes e m = ends (record { sixteen = e; each = m; large = λ f. absurd (never refl f) })
small_within (suc n) i above left modes e m =
    within_more (omega arith) (within_bind {k = n * 7} (block_within (mode_above_of above modes i) (mode_left_of left modes i)) (λ v h. small_within n (i + 1) above left (set modes i v) (length-set modes i v ∙ e) (set_modes modes i v h m)))

pub small_modes_within : (above left : List ℕ) → Within (Luma true) 112 (small_modes_of above left)
unfolding small_modes_of
small_modes_within above left = small_within 16 0 above left zeros refl zeros_modes

pub luma_within : (small : Bool) (above left : List ℕ) → Within (Luma small) 112 (luma small above left)
luma_within true above left = small_modes_within above left
luma_within false above left =
    within_more {n = 3} (omega arith)
    (within_bind {k = 0} (large_within false) (λ m h. ends (record { sixteen = refl; each = each_fact 10 (replicate 16 m) (lit< tt) (rw (lt-ltb m 10 (omega arith))); large = λ f. (refl, h) })))

-- ---- a macroblock: every value in range, and at most 119 symbols
pub modes_within : (a : Announced) → Probabilities a → (above left : List ℕ) → Within InRange 119 (modes_of a above left)
unfolding modes_of
modes_within a y above left =
    within_bind {k = 115} (prefix_within a y) (λ p i.
    within_bind {k = 3} (luma_within p.small above left) (λ l b.
    within_bind {k = 0} (large_within true) (λ c d. ends (record { segment = i; luma = b; chroma = d }))))

-- ---- what a macroblock leaves to its neighbours are modes again
four_modes : (a b c d : ℕ) → a < 10 → b < 10 → c < 10 → d < 10 → Modes (a ∷ b ∷ c ∷ d ∷ [])
four_modes a b c d p q r t zero = p
four_modes a b c d p q r t (suc zero) = q
four_modes a b c d p q r t (suc (suc zero)) = r
four_modes a b c d p q r t (suc (suc (suc zero))) = t
four_modes a b c d p q r t (suc (suc (suc (suc j)))) = lit< tt

pub bottom_modes : (l : List ℕ) → Modes l → Modes (bottom_of l)
bottom_modes l m = four_modes _ _ _ _ (m 12) (m 13) (m 14) (m 15)

pub right_modes : (l : List ℕ) → Modes l → Modes (right_of l)
right_modes l m = four_modes _ _ _ _ (m 3) (m 7) (m 11) (m 15)
