-- The worked numbers, as one table: what the definitions give, row by row, beside what the scope says. Proved by computation.
use Rattle.std.specs.Prelude.{◌*◌, ◌≡◌, ◌∷◌}
use Rattle.numbers.specs.Words.{ℕ, refl, Bool, true, false, List, [], replicate, build, ℤ, pos, negsuc, clamp_z, up_to, wrap_z}
use Rattle.coefficients.specs.Block.{sign_of}
use Rattle.transform.specs.Transform.{grid_of, transpose_of, grid_column, scaled_of, pass_of, rows_of, vertical_pass, horizontal_pass, results_of, samples_of}
use Rattle.filter.specs.Kernel.{filter_of, moved_of, steps_of, no_steps, common_steps_of, macroblock_steps_of, inner_steps_of, sides, part, half, eighth, tapped, across, rule_of, high_variance_of, rough_at, smooth, first_false, within_limit_of}

-- a row: what is computed, and what it must be
pub record Row : Type 0 where
  pub gives : List ℤ
  pub must : List ℤ

-- what is computed, row by row
abbrev given : List Row → List (List ℤ)
given [] = []
given (r ∷ rs) = r.gives ∷ given rs

-- what it must be, row by row
abbrev wanted : List Row → List (List ℤ)
wanted [] = []
wanted (r ∷ rs) = r.must ∷ wanted rs

-- samples as numbers with a sign
abbrev as_signed : List ℕ → List ℤ
as_signed [] = []
as_signed (x ∷ xs) = pos x ∷ as_signed xs

-- a block whose first coefficient alone is not 0, and sixteen samples that are all one value
abbrev dc : ℤ → List ℤ
dc d = d ∷ replicate 15 (pos 0)

-- sixteen results that are all one value
abbrev all : ℤ → List ℤ
all z = replicate 16 z

-- a number times a quantizer, of either sign, in 16 bits
abbrev product : Bool → (v q : ℕ) → List ℤ
product negative v q = wrap_z (sign_of negative (v * q)) ∷ []

-- the eight samples of the kernel's rows
abbrev flat : List ℕ
flat = 100 ∷ 100 ∷ 100 ∷ 100 ∷ 110 ∷ 110 ∷ 110 ∷ 110 ∷ []

-- what the kernel makes of them, inner number and threshold 0
abbrev edge : Bool → Bool → ℕ → List ℤ
edge simple macroblock limit = as_signed (filter_of flat simple macroblock limit 0 0)

-- THE TABLE
abbrev pub table : List Row
table =
    -- the inverse DCT of a DC alone
    record { gives = samples_of false (dc (pos 3)); must = all (pos 0) }
    ∷ record { gives = samples_of false (dc (pos 4)); must = all (pos 1) }
    ∷ record { gives = samples_of false (dc (negsuc 3)); must = all (pos 0) }
    ∷ record { gives = samples_of false (dc (negsuc 4)); must = all (negsuc 0) }
    -- the inverse Walsh transform of a DC alone
    ∷ record { gives = samples_of true (dc (pos 5)); must = all (pos 1) }
    ∷ record { gives = samples_of true (dc (negsuc 3)); must = all (negsuc 0) }
    -- coefficient 4 alone is -1: column 0 after the first pass
    ∷ record {
      gives = grid_column (vertical_pass false (grid_of (pos 0 ∷ pos 0 ∷ pos 0 ∷ pos 0 ∷ negsuc 0 ∷ replicate 11 (pos 0)))) 0;
      must = negsuc 1 ∷ negsuc 0 ∷ pos 1 ∷ pos 2 ∷ [];
    }
    -- products in 16 bits
    ∷ record { gives = product false 2047 16; must = pos 32752 ∷ [] }
    ∷ record { gives = product false 2048 16; must = negsuc 32767 ∷ [] }
    ∷ record { gives = product true 2048 16; must = negsuc 32767 ∷ [] }
    ∷ record { gives = product false 2048 32; must = pos 0 ∷ [] }
    ∷ record { gives = product false 2114 157; must = pos 4218 ∷ [] }
    -- an edge between 100 and 110, inner 0, threshold 0: limit 24 changes nothing
    ∷ record { gives = edge false true 24; must = as_signed flat }
    ∷ record { gives = edge false false 24; must = as_signed flat }
    ∷ record { gives = edge true false 24; must = as_signed flat }
    -- limit 25: a macroblock edge, an inner edge, the simple kind
    ∷ record { gives = edge false true 25; must = as_signed (100 ∷ 101 ∷ 103 ∷ 104 ∷ 106 ∷ 107 ∷ 109 ∷ 110 ∷ []) }
    ∷ record { gives = edge false false 25; must = as_signed (100 ∷ 100 ∷ 102 ∷ 104 ∷ 106 ∷ 108 ∷ 110 ∷ 110 ∷ []) }
    ∷ record { gives = edge true false 25; must = as_signed (100 ∷ 100 ∷ 100 ∷ 102 ∷ 107 ∷ 110 ∷ 110 ∷ 110 ∷ []) }
    ∷ []

pub worked : given table ≡ wanted table
unfolding clamp_z up_to build wrap_z grid_of transpose_of scaled_of pass_of rows_of vertical_pass horizontal_pass results_of samples_of filter_of moved_of steps_of no_steps common_steps_of macroblock_steps_of inner_steps_of sides part half eighth tapped across rule_of high_variance_of rough_at smooth first_false within_limit_of
worked = refl
