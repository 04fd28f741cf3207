-- What callers and proofs cite of the prediction: facts of the width, TM row by row, a sub-block in a direction from the
-- means that the code picks, and that each answer is sixteen samples.
use Rattle.std.specs.Prelude.{◌+◌, ◌-◌, ◌/◌, ◌%◌, ◌≤◌, ◌<◌, ◌≡◌, ◌∷◌}
use Rattle.numbers.specs.Words.{ℕ, arith, refl, sym, ◌∙◌, ap, ap₂, inl, inr, ⊎_elim, eqb, ltb, lt_or, eqb-true, ltb-true, List, [], length, get_or, get_or-eq_default, length_build, build_listed, all_of_any}
use Rattle.predict.specs.Predict.{Size, at, mean2, mean3, two, three, tm_one, dc_block_of, tm_block_of, ve_block, he_block, rd_block, vr_block, ld_block, vl_block, hd_block, hu_block, small_blocks_of, small_block_of}
use Rattle.predict.specs.Pieces.{Count, tm_at, tm_of, tm_row_of, joined_of, Eleven, stretched_of, twos_of, threes_of, both_of, row_picked, rows_picked, picked_of}

-- ---- the width
pub size_le : {n : ℕ} → Size n → n ≤ 16
size_le s = ⊎_elim (λ e. omega arith) (λ e. omega arith) s

pub count_twice : {n : ℕ} → Size n → Count (n + n)
count_twice s = ⊎_elim (λ e. inl (inr (omega arith))) (λ e. inr (omega arith)) s

-- ---- TM
pub tm_rows : (l a : List ℕ) (p : ℕ) {w x y z : List ℕ}
    → w ≡ tm_row_of (get_or l 0 0) a p → x ≡ tm_row_of (get_or l 1 0) a p → y ≡ tm_row_of (get_or l 2 0) a p → z ≡ tm_row_of (get_or l 3 0) a p
    → joined_of w x y z ≡ tm_of l a p
unfolding tm_of
tm_rows l a p e f g h = rw (e, f, g, h) (sym (build_listed 16 (tm_at l a p)))

-- of a sub-block, from its edge
pub tm_edge : (e : List ℕ)
    → tm_of (at e 3 ∷ at e 2 ∷ at e 1 ∷ at e 0 ∷ []) (at e 5 ∷ at e 6 ∷ at e 7 ∷ at e 8 ∷ []) (at e 4) ≡ tm_block_of e
unfolding tm_of tm_block_of
tm_edge e = build_listed 16 _ ∙ sym (build_listed 16 _)

-- ---- a sub-block in a direction
-- what the code picks for it: of the edge stretched the means of two from place i on, and of three from place j on
abbrev pub directed_of : List ℕ → (i j : ℕ) (places : List ℕ) → List ℕ
directed_of e i j places = rows_picked (both_of (twos_of (stretched_of e) i) (threes_of (stretched_of e) j)) places

pub directed : (e : List ℕ) (i j : ℕ) (places : List ℕ) {f d t m r : List ℕ}
    → f ≡ stretched_of e → d ≡ twos_of f i → t ≡ threes_of f j → m ≡ both_of d t → r ≡ picked_of m places → r ≡ directed_of e i j places
unfolding picked_of
directed e i j places a b c d h =
    h ∙ ap (λ (m : List ℕ). rows_picked m places)
    (d ∙ ap₂ (λ (x y : List ℕ). both_of x y) (b ∙ ap (λ (f : List ℕ). twos_of f i) a) (c ∙ ap (λ (f : List ℕ). threes_of f j) a))

pub picked_rows : (m places : List ℕ) {w x y z : List ℕ}
    → w ≡ row_picked m places 0 → x ≡ row_picked m places 4 → y ≡ row_picked m places 8 → z ≡ row_picked m places 12 → joined_of w x y z ≡ picked_of m places
unfolding picked_of
picked_rows m places a b c d = λ i. joined_of (a i) (b i) (c i) (d i)

-- a place among eleven
pub eleven_at_lem : (places : List ℕ) → Eleven places → (k : ℕ) → get_or places k 0 < 11
eleven_at_lem places h k = ltb-true (get_or places k 0) 11 (all_of_any (λ (x : ℕ). ltb x 11) places 0 refl h k)

-- at the first sample of the edge
first_three : (x y : ℕ) → mean3 x x y ≡ mean3 y x x
first_three x y = ap (λ (s : ℕ). s / 4) (omega arith)

first_two : (x : ℕ) → mean2 x x ≡ x
first_two x = omega arith

pub he_directed : (e : List ℕ) → directed_of e 0 0 (7 ∷ 7 ∷ 7 ∷ 7 ∷ 6 ∷ 6 ∷ 6 ∷ 6 ∷ 5 ∷ 5 ∷ 5 ∷ 5 ∷ 4 ∷ 4 ∷ 4 ∷ 4 ∷ []) ≡ he_block e
unfolding he_block
he_directed e =
    let a = three e 3 in let b = three e 2 in let c = three e 1 in
    ap (λ (d : ℕ). a ∷ a ∷ a ∷ a ∷ b ∷ b ∷ b ∷ b ∷ c ∷ c ∷ c ∷ c ∷ d ∷ d ∷ d ∷ d ∷ []) (first_three (at e 0) (at e 1))

pub hu_directed : (e : List ℕ) → directed_of e 0 0 (3 ∷ 6 ∷ 2 ∷ 5 ∷ 2 ∷ 5 ∷ 1 ∷ 4 ∷ 1 ∷ 4 ∷ 0 ∷ 0 ∷ 0 ∷ 0 ∷ 0 ∷ 0 ∷ []) ≡ hu_block e
unfolding hu_block
hu_directed e =
    ap₂ (λ (t z : ℕ). two e 2 ∷ three e 2 ∷ two e 1 ∷ three e 1 ∷ two e 1 ∷ three e 1 ∷ two e 0 ∷ t ∷ two e 0 ∷ t ∷ z ∷ z ∷ z ∷ z ∷ z ∷ z ∷ [])
    (first_three (at e 0) (at e 1)) (first_two (at e 0))

-- ---- a sub-block: a number past the last mode, and that it is sixteen
pub small_past : (mode : ℕ) (e : List ℕ) → 9 ≤ mode → small_block_of mode e ≡ hu_block e
small_past mode e h = elim (lt_or mode 10) [
  | inl l ↦ let m : mode ≡ 9 = omega arith in rw m
  | inr g ↦ get_or-eq_default (small_blocks_of e) (hu_block e) g
]

pub small_long : (mode : ℕ) (e : List ℕ) → length (small_block_of mode e) ≡ 16
unfolding dc_block_of tm_block_of ve_block he_block rd_block vr_block ld_block vl_block hd_block hu_block
small_long mode e =
    eqb-true (length (small_block_of mode e)) 16
    (all_of_any (λ (l : List ℕ). eqb (length l) 16) (small_blocks_of e) (hu_block e) refl
    (rw (length_build 16 (λ (k : ℕ). tm_one (at e (3 - k / 4)) (at e (5 + k % 4)) (at e 4)))) mode)
