-- Small files, one for each way through the reader: number, place and length. Proved by computation.
use Rattle.std.specs.Prelude.{◌≡◌, ◌∷◌, ◌++◌}
use Rattle.numbers.specs.Words.{ℕ, refl, List, []}
use Rattle.webp.specs.Webp.{uint32_at, uint32_of, riff, webp, vp8, four_cc_at, file_of, marked_of, sized_of, lossy_of, filled_of, find_refusal, find_of, found_number_of, found_start_of, found_length_of}

-- a row: the bytes, and what the reader must say of them
pub record Row : Type 0 where
  pub bytes : List ℕ
  pub must : List ℕ

-- what is computed, row by row
abbrev given : List Row → List (List ℕ)
given [] = []
given (r ∷ rs) = let f = find_of r.bytes in (found_number_of f ∷ found_start_of f ∷ found_length_of f ∷ []) ∷ given rs

-- what it must be, row by row
abbrev wanted : List Row → List (List ℕ)
wanted [] = []
wanted (r ∷ rs) = r.must ∷ wanted rs

-- a file by its fields
abbrev fields : ℕ → List ℕ → ℕ → List ℕ → List ℕ
fields size kind chunk rest = riff ++ uint32_of size ++ webp ++ kind ++ uint32_of chunk ++ rest

-- a refusal: its number, and zeros
abbrev refused : ℕ → List ℕ
refused n = n ∷ 0 ∷ 0 ∷ []

-- 'VP8L', a lossless file
abbrev vp8l : List ℕ
vp8l = 86 ∷ 80 ∷ 56 ∷ 76 ∷ []

-- 'VP8X', an extended one
abbrev vp8x : List ℕ
vp8x = 86 ∷ 80 ∷ 56 ∷ 88 ∷ []

-- THE TABLE
abbrev pub table : List Row
table =
    -- an odd frame with its pad byte, an even one, an empty one
    record { bytes = fields 14 vp8 1 (7 ∷ 0 ∷ []); must = 0 ∷ 20 ∷ 1 ∷ [] }
    ∷ record { bytes = fields 14 vp8 2 (7 ∷ 8 ∷ []); must = 0 ∷ 20 ∷ 2 ∷ [] }
    ∷ record { bytes = fields 12 vp8 0 []; must = 0 ∷ 20 ∷ 0 ∷ [] }
    -- what the writer makes
    ∷ record { bytes = file_of (7 ∷ 8 ∷ 9 ∷ []); must = 0 ∷ 20 ∷ 3 ∷ [] }
    -- 17: no mark, 'RIFF' alone, the WEBP mark cut; before 18 where the size is wrong too
    ∷ record { bytes = []; must = refused 17 }
    ∷ record { bytes = riff; must = refused 17 }
    ∷ record { bytes = riff ++ uint32_of 3 ++ (87 ∷ 69 ∷ 66 ∷ []); must = refused 17 }
    ∷ record { bytes = riff ++ uint32_of 99 ++ vp8 ++ vp8 ++ uint32_of 0; must = refused 17 }
    -- 18: the RIFF size counts one byte too many, one too few, or is big-endian; before 19 where the kind is another
    ∷ record { bytes = fields 15 vp8 2 (7 ∷ 8 ∷ []); must = refused 18 }
    ∷ record { bytes = fields 14 vp8 2 (7 ∷ 8 ∷ 9 ∷ []); must = refused 18 }
    ∷ record { bytes = fields 234881024 vp8 2 (7 ∷ 8 ∷ []); must = refused 18 }
    ∷ record { bytes = fields 15 vp8l 2 (7 ∷ 8 ∷ []); must = refused 18 }
    -- 19: no chunk, its kind cut, another kind; before 18 where the chunk's size is wrong too
    ∷ record { bytes = riff ++ uint32_of 4 ++ webp; must = refused 19 }
    ∷ record { bytes = riff ++ uint32_of 7 ++ webp ++ (86 ∷ 80 ∷ 56 ∷ []); must = refused 19 }
    ∷ record { bytes = fields 14 vp8l 2 (7 ∷ 8 ∷ []); must = refused 19 }
    ∷ record { bytes = fields 14 vp8x 99 (7 ∷ 8 ∷ []); must = refused 19 }
    -- 18: the chunk's size cut, too large, too small (a byte or a chunk behind it), big-endian; no pad byte, a pad byte of 1
    ∷ record { bytes = riff ++ uint32_of 11 ++ webp ++ vp8 ++ (0 ∷ 0 ∷ 0 ∷ []); must = refused 18 }
    ∷ record { bytes = fields 14 vp8 4 (7 ∷ 8 ∷ []); must = refused 18 }
    ∷ record { bytes = fields 15 vp8 2 (7 ∷ 8 ∷ 9 ∷ []); must = refused 18 }
    ∷ record { bytes = fields 22 vp8 2 (7 ∷ 8 ∷ vp8x ++ uint32_of 0); must = refused 18 }
    ∷ record { bytes = fields 14 vp8 33554432 (7 ∷ 8 ∷ []); must = refused 18 }
    ∷ record { bytes = fields 13 vp8 1 (7 ∷ []); must = refused 18 }
    ∷ record { bytes = fields 14 vp8 1 (7 ∷ 1 ∷ []); must = refused 18 }
    ∷ []

pub worked : given table ≡ wanted table
unfolding uint32_at four_cc_at file_of marked_of sized_of lossy_of filled_of find_refusal find_of
worked = refl
