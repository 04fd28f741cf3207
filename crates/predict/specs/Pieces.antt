-- What single functions of the code take and give, where the definitions of prediction have no name for it.
use Rattle.std.specs.Prelude.{◌+◌, ◌/◌, ◌%◌, ◌≡◌, ◌⊎◌, ◌∷◌}
use Rattle.numbers.specs.Words.{ℕ, true, ltb, List, [], get_or, build, all_of}
use Rattle.predict.specs.Predict.{Size, at, mean3, two, tm_one}

-- ---- means
-- how many samples a mean is taken of: one side of a square, or two
abbrev pub Count : ℕ → Type 0
Count n = Size n ⊎ (n ≡ 32)

-- the mean of n numbers with the sum t
abbrev pub mean_over : ℕ → ℕ → ℕ
mean_over t n = (t + n / 2) / n

-- ---- TM
-- the sample at place k of a block with l on its left, a above it, and the corner p
abbrev pub tm_at : List ℕ → List ℕ → ℕ → ℕ → ℕ
tm_at l a p k = tm_one (get_or l (k / 4) 0) (get_or a (k % 4) 0) p

unfoldable pub tm_of : List ℕ → List ℕ → ℕ → List ℕ
tm_of l a p = build 16 (tm_at l a p)

-- row by row: a row with x on its left, and four rows one after the other
abbrev pub tm_row_of : ℕ → List ℕ → ℕ → List ℕ
tm_row_of x a p = tm_one x (get_or a 0 0) p ∷ tm_one x (get_or a 1 0) p ∷ tm_one x (get_or a 2 0) p ∷ tm_one x (get_or a 3 0) p ∷ []

abbrev pub joined_of : (w x y z : List ℕ) → List ℕ
joined_of w x y z =
    get_or w 0 0 ∷ get_or w 1 0 ∷ get_or w 2 0 ∷ get_or w 3 0 ∷ get_or x 0 0 ∷ get_or x 1 0 ∷ get_or x 2 0 ∷ get_or x 3 0
    ∷ get_or y 0 0 ∷ get_or y 1 0 ∷ get_or y 2 0 ∷ get_or y 3 0 ∷ get_or z 0 0 ∷ get_or z 1 0 ∷ get_or z 2 0 ∷ get_or z 3 0 ∷ []

-- ---- a sub-block in a direction
-- the edge with its first and its last sample once more
abbrev pub stretched_of : List ℕ → List ℕ
stretched_of e =
    at e 0 ∷ at e 0 ∷ at e 1 ∷ at e 2 ∷ at e 3 ∷ at e 4 ∷ at e 5 ∷ at e 6 ∷ at e 7 ∷ at e 8 ∷ at e 9 ∷ at e 10 ∷ at e 11 ∷ at e 12 ∷ at e 12 ∷ []

-- the mean of three from place i on; four means of two, seven of three, and all of them
abbrev pub three_from_of : List ℕ → ℕ → ℕ
three_from_of f i = mean3 (at f i) (at f (i + 1)) (at f (i + 2))

abbrev pub twos_of : List ℕ → ℕ → List ℕ
twos_of f i = two f i ∷ two f (i + 1) ∷ two f (i + 2) ∷ two f (i + 3) ∷ []

abbrev pub threes_of : List ℕ → ℕ → List ℕ
threes_of f i =
    three_from_of f i ∷ three_from_of f (i + 1) ∷ three_from_of f (i + 2) ∷ three_from_of f (i + 3) ∷ three_from_of f (i + 4) ∷ three_from_of f (i + 5) ∷ three_from_of f (i + 6) ∷ []

abbrev pub both_of : List ℕ → List ℕ → List ℕ
both_of d t = at d 0 ∷ at d 1 ∷ at d 2 ∷ at d 3 ∷ at t 0 ∷ at t 1 ∷ at t 2 ∷ at t 3 ∷ at t 4 ∷ at t 5 ∷ at t 6 ∷ []

-- places among eleven; what stands at four of them, and at sixteen
abbrev pub Eleven : List ℕ → Type 0
Eleven places = all_of (λ (x : ℕ). ltb x 11) places ≡ true

abbrev pub row_picked : List ℕ → List ℕ → ℕ → List ℕ
row_picked m places k = at m (at places k) ∷ at m (at places (k + 1)) ∷ at m (at places (k + 2)) ∷ at m (at places (k + 3)) ∷ []

abbrev pub rows_picked : List ℕ → List ℕ → List ℕ
rows_picked m places = joined_of (row_picked m places 0) (row_picked m places 4) (row_picked m places 8) (row_picked m places 12)

unfoldable pub picked_of : List ℕ → List ℕ → List ℕ
picked_of m places = rows_picked m places
