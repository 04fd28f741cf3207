-- Prediction of a block from the samples around it (RFC 6386, sections 12.2, 2821-3008, and 12.3, 3010-3317).
use Rattle.std.specs.Prelude.{◌+◌, ◌-◌, ◌/◌, ◌%◌, ◌≡◌, ◌⊎◌, ◌∷◌, ◌+ℤ◌, ◌-ℤ◌}
use Rattle.numbers.specs.Words.{ℕ, zero, suc, Bool, true, false, List, [], get_or, replicate, build, pos, clip_z}
use Rattle.predict.specs.declared.Border.{Border}

-- a macroblock's square: 16 in luma, 8 in chroma
abbrev pub Size : ℕ → Type 0
Size n = (n ≡ 8) ⊎ (n ≡ 16)

-- ---- section 12.3, 3087-3317: a sub-block, from the edge E of thirteen samples around it: the left column from its bottom (E 0 .. E 3), the
-- corner (E 4), the row above and the four samples to its right (E 5 .. E 12)
abbrev pub at : List ℕ → ℕ → ℕ
at e i = get_or e i 0

-- avg2p and avg3p of the RFC (3097-3111): the mean of E i and E (i + 1); and of E (i - 1), E i twice, E (i + 1)
abbrev pub mean2 : ℕ → ℕ → ℕ
mean2 x y = (x + y + 1) / 2

-- avg3, the RFC's weighted mean of three (3097-3098): a + 2b + c, rounded
abbrev pub mean3 : ℕ → ℕ → ℕ → ℕ
mean3 x y z = (x + y + y + z + 2) / 4

-- the mean of two neighbours around, from place i on
abbrev pub two : List ℕ → ℕ → ℕ
two e i = mean2 (at e i) (at e (i + 1))

-- the mean of the three around place i
abbrev pub three : List ℕ → ℕ → ℕ
three e i = mean3 (at e (i - 1)) (at e i) (at e (i + 1))

-- TM_PRED, X_ij of the RFC (section 12.2, 2886-2950, clamped as in 2992): the sample with x on its left, y above it, and the corner p
abbrev pub tm_one : (x y p : ℕ) → ℕ
tm_one x y p = clip_z (pos x +ℤ pos y -ℤ pos p)

-- the ten modes: rows from the top, each from the left. B_DC_PRED (3128-3146)
unfoldable pub dc_block_of : List ℕ → List ℕ
dc_block_of e =
    replicate 16 ((at e 0 + at e 1 + at e 2 + at e 3 + at e 5 + at e 6 + at e 7 + at e 8 + 4) / 8)

-- B_TM_PRED (3148-3156): left and above less the corner, clipped
unfoldable pub tm_block_of : List ℕ → List ℕ
tm_block_of e = build 16 (λ k. tm_one (at e (3 - k / 4)) (at e (5 + k % 4)) (at e 4))

-- B_VE_PRED (3158-3164): the smoothed row above, four times
unfoldable pub ve_block : List ℕ → List ℕ
ve_block e =
    let a = three e 5 in let b = three e 6 in let c = three e 7 in let d = three e 8 in
    a ∷ b ∷ c ∷ d ∷ a ∷ b ∷ c ∷ d ∷ a ∷ b ∷ c ∷ d ∷ a ∷ b ∷ c ∷ d ∷ []

-- B_HE_PRED (3166-3179): the smoothed column at the left, across
unfoldable pub he_block : List ℕ → List ℕ
he_block e =
    let a = three e 3 in let b = three e 2 in let c = three e 1 in let d = mean3 (at e 1) (at e 0) (at e 0) in
    a ∷ a ∷ a ∷ a ∷ b ∷ b ∷ b ∷ b ∷ c ∷ c ∷ c ∷ c ∷ d ∷ d ∷ d ∷ d ∷ []

-- B_RD_PRED (3216-3226): down and to the right
unfoldable pub rd_block : List ℕ → List ℕ
rd_block e =
    three e 4 ∷ three e 5 ∷ three e 6 ∷ three e 7
    ∷ three e 3 ∷ three e 4 ∷ three e 5 ∷ three e 6
    ∷ three e 2 ∷ three e 3 ∷ three e 4 ∷ three e 5
    ∷ three e 1 ∷ three e 2 ∷ three e 3 ∷ three e 4 ∷ []

-- B_VR_PRED (3237-3257): down, and half as far to the right
unfoldable pub vr_block : List ℕ → List ℕ
vr_block e =
    two e 4 ∷ two e 5 ∷ two e 6 ∷ two e 7
    ∷ three e 4 ∷ three e 5 ∷ three e 6 ∷ three e 7
    ∷ three e 3 ∷ two e 4 ∷ two e 5 ∷ two e 6
    ∷ three e 2 ∷ three e 4 ∷ three e 5 ∷ three e 6 ∷ []

-- B_LD_PRED (3204-3214): down and to the left
unfoldable pub ld_block : List ℕ → List ℕ
ld_block e =
    three e 6 ∷ three e 7 ∷ three e 8 ∷ three e 9
    ∷ three e 7 ∷ three e 8 ∷ three e 9 ∷ three e 10
    ∷ three e 8 ∷ three e 9 ∷ three e 10 ∷ three e 11
    ∷ three e 9 ∷ three e 10 ∷ three e 11 ∷ mean3 (at e 11) (at e 12) (at e 12) ∷ []

-- B_VL_PRED (3259-3274): down, and half as far to the left
unfoldable pub vl_block : List ℕ → List ℕ
vl_block e =
    two e 5 ∷ two e 6 ∷ two e 7 ∷ two e 8
    ∷ three e 6 ∷ three e 7 ∷ three e 8 ∷ three e 9
    ∷ two e 6 ∷ two e 7 ∷ two e 8 ∷ three e 10
    ∷ three e 7 ∷ three e 8 ∷ three e 9 ∷ three e 11 ∷ []

-- B_HD_PRED (3276-3288): to the right, and half as far down
unfoldable pub hd_block : List ℕ → List ℕ
hd_block e =
    two e 3 ∷ three e 4 ∷ three e 5 ∷ three e 6
    ∷ two e 2 ∷ three e 3 ∷ two e 3 ∷ three e 4
    ∷ two e 1 ∷ three e 2 ∷ two e 2 ∷ three e 3
    ∷ two e 0 ∷ three e 1 ∷ two e 1 ∷ three e 2 ∷ []

-- B_HU_PRED (3290-3315): to the right, and half as far up
unfoldable pub hu_block : List ℕ → List ℕ
hu_block e =
    two e 2 ∷ three e 2 ∷ two e 1 ∷ three e 1
    ∷ two e 1 ∷ three e 1 ∷ two e 0 ∷ mean3 (at e 1) (at e 0) (at e 0)
    ∷ two e 0 ∷ mean3 (at e 1) (at e 0) (at e 0) ∷ at e 0 ∷ at e 0
    ∷ at e 0 ∷ at e 0 ∷ at e 0 ∷ at e 0 ∷ []

-- by the source's mode numbers
abbrev pub small_blocks_of : List ℕ → List (List ℕ)
small_blocks_of e = dc_block_of e ∷ tm_block_of e ∷ ve_block e ∷ he_block e ∷ rd_block e ∷ vr_block e ∷ ld_block e ∷ vl_block e ∷ hd_block e ∷ hu_block e ∷ []

-- the sixteen samples of a small mode. A number past the last is taken as the last, B_HU_PRED: no macroblock has one, and `paint` refuses it
abbrev pub small_block_of : ℕ → List ℕ → List ℕ
small_block_of mode e = get_or (small_blocks_of e) mode (hu_block e)

-- ---- section 12.2, 2836-2992 (luma alike: 12.3, 3012-3022): a whole square, 16 or 8 wide
-- the sum of the first n
unfoldable pub sum_of_first : List ℕ → ℕ → ℕ
sum_of_first l zero = 0
sum_of_first l (suc n) = sum_of_first l n + get_or l n 0

-- DC: the mean of the neighbours that are inside, or 128 (2846-2879)
abbrev pub mean_of : Bool → Bool → ℕ → ℕ → ℕ → ℕ
mean_of true true n a l = (a + l + n) / (n + n)
mean_of true false n a l = (a + n / 2) / n
mean_of false true n a l = (l + n / 2) / n
mean_of false false n a l = 128

-- DC of a square with this edge
unfoldable pub dc_of : ℕ → Border → ℕ
dc_of n e = mean_of e.above_inside e.left_inside n (sum_of_first e.above n) (sum_of_first e.left n)

-- a row of a square in TM_PRED (2979-2992), sixteen wide, with x on its left and a above it
abbrev pub tm_wide_of : ℕ → List ℕ → ℕ → List ℕ
tm_wide_of x a p = build 16 (λ k. tm_one x (get_or a k 0) p)

-- large modes 0 DC, 1 TM, 2 V, 3 H: the sample at row r, column c of the square
abbrev pub large_at : ℕ → ℕ → Border → ℕ → ℕ → ℕ
large_at mode dc e r c =
    let a = get_or e.above c 0 in
    let l = get_or e.left r 0 in
    get_or (dc ∷ tm_one l a e.corner ∷ a ∷ l ∷ []) mode 0

-- its sub-block at row r, column c
unfoldable pub large_of : ℕ → ℕ → Border → ℕ → ℕ → List ℕ
large_of mode dc e r c = build 16 (λ k. large_at mode dc e (r + k / 4) (c + k % 4))
