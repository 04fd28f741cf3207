-- The inverse transforms of a block of 4 by 4 coefficients: RFC 6386, section 14.3, 4377-4439 (Walsh-Hadamard, for Y2) and section 14.4,
-- 4543-4610 (DCT). A flag `walsh` says which. Every division rounds down, and nothing on the way is cut to a width; the RFC keeps 16 bits
-- between the passes (4350-4353, 4507-4510; docs/DIFFERENCES.md).
use Rattle.std.specs.Prelude.{◌+◌, ◌*◌, ◌/◌, ◌%◌, ◌&&◌, ◌∷◌, ◌+ℤ◌, ◌-ℤ◌, ◌*ℤ◌}
use Rattle.numbers.specs.Words.{ℕ, Bool, true, false, cond, List, [], get_or, replicate, build, all_below, ℤ, pos, negsuc, le_z, shr_z, wrap_z}
pub use Rattle.transform.specs.declared.Transformed.{Transformed}

-- ---- a block as four rows of four numbers
abbrev pub Grid : Type 0
Grid = List (List ℤ)

-- number k of a line
abbrev pub at : List ℤ → ℕ → ℤ
at r k = get_or r k (pos 0)

-- row y, column x
abbrev pub cell : Grid → (y x : ℕ) → ℤ
cell g y x = at (get_or g y []) x

-- four of something, by their numbers
abbrev pub four {ℓ} : {A : Type ℓ} → (ℕ → A) → List A
four f = f 0 ∷ f 1 ∷ f 2 ∷ f 3 ∷ []

-- four of the sixteen coefficients
abbrev pub grid_row : List ℤ → (from : ℕ) → List ℤ
grid_row c from = four (λ x. at c (from + x))

-- the sixteen, row by row
unfoldable pub grid_of : List ℤ → Grid
grid_of c = four (λ y. grid_row c (4 * y))

-- column x, from the top
abbrev pub grid_column : Grid → (x : ℕ) → List ℤ
grid_column g x = four (λ y. cell g y x)

-- columns for rows
unfoldable pub transpose_of : Grid → Grid
transpose_of g = four (grid_column g)

-- ---- a line of four numbers through a transform
-- k / 65536 of x
unfoldable pub scaled_of : (k x : ℤ) → ℤ
scaled_of k x = shr_z (k *ℤ x) 65536

-- Both with the RFC's names. `bias` is what the second pass adds for rounding; the RFC adds it to each of the four results. Section 14.3
-- stands first. Section 14.4's multipliers are sinpi8sqrt2 = 35468 and cospi8sqrt2minus1 = 20091 (4546-4547).
unfoldable pub pass_of : (walsh : Bool) (bias a b c d : ℤ) → List ℤ
pass_of true bias a b c d =
    let a1 = a +ℤ d +ℤ bias in
    let b1 = b +ℤ c in
    let c1 = b -ℤ c in
    let d1 = a -ℤ d +ℤ bias in
    (a1 +ℤ b1) ∷ (d1 +ℤ c1) ∷ (a1 -ℤ b1) ∷ (d1 -ℤ c1) ∷ []
pass_of false bias a b c d =
    let a1 = a +ℤ c +ℤ bias in
    let b1 = a -ℤ c +ℤ bias in
    let c1 = scaled_of (pos 35468) b -ℤ scaled_of (pos 20091) d -ℤ d in
    let d1 = scaled_of (pos 20091) b +ℤ b +ℤ scaled_of (pos 35468) d in
    (a1 +ℤ d1) ∷ (b1 +ℤ c1) ∷ (b1 -ℤ c1) ∷ (a1 -ℤ d1) ∷ []

-- a line of four through a transform
abbrev pub line_of : (walsh : Bool) (bias : ℤ) → List ℤ → List ℤ
line_of walsh bias r = pass_of walsh bias (at r 0) (at r 1) (at r 2) (at r 3)

-- ---- the block through a transform
-- each row through it
unfoldable pub rows_of : (walsh : Bool) (bias : ℤ) → Grid → Grid
rows_of walsh bias g = four (λ y. line_of walsh bias (get_or g y []))

-- the first pass: each column
unfoldable pub vertical_pass : (walsh : Bool) → Grid → Grid
vertical_pass walsh g = transpose_of (rows_of walsh (pos 0) (transpose_of g))

-- the second pass: each row, with the rounding of a division by 8
abbrev pub bias_of : (walsh : Bool) → ℤ
bias_of true = pos 3
bias_of false = pos 4

-- each row
unfoldable pub horizontal_pass : (walsh : Bool) → Grid → Grid
horizontal_pass walsh g = rows_of walsh (bias_of walsh) g

-- that division. A Walsh result is a coefficient again, so it is taken into 16 bits
abbrev pub result_of : (walsh : Bool) → ℤ → ℤ
result_of true v = wrap_z (shr_z v 8)
result_of false v = shr_z v 8

-- of all sixteen
unfoldable pub results_of : (walsh : Bool) → Grid → List ℤ
results_of walsh g = build 16 (λ k. result_of walsh (cell g (k / 4) (k % 4)))

-- all of it: the sixteen results, row by row
unfoldable pub samples_of : (walsh : Bool) → (c : List ℤ) → List ℤ
samples_of walsh c = results_of walsh (horizontal_pass walsh (vertical_pass walsh (grid_of c)))

-- ---- the public call: 0 and the results, or 8 and zeros where a coefficient does not fit 16 bits
abbrev pub fits16 : ℤ → Bool
fits16 z = le_z (negsuc 32767) z && le_z z (pos 32767)

-- every coefficient fits
unfoldable pub block_fits : List ℤ → Bool
block_fits c = all_below 16 (λ k. fits16 (at c k))

-- `transform`
unfoldable pub transform_of : (c : List ℤ) (walsh : Bool) → Transformed
transform_of c walsh =
    cond (block_fits c) (record { number = 0; samples = samples_of walsh c }) (record { number = 8; samples = replicate 16 (pos 0) })
