-- The cockpit tile profile (request M-111). A tile fits when, in this order: it is 256 by 256; it has 1, 2 or 4 token partitions; segments are
-- off; sharpness is 0; the picture call answers 0; no macroblock is both skipped and small. The first rule that fails is named, the last one
-- with the first such macroblock.
use Rattle.std.specs.Prelude.{◌&&◌, ◌||◌, ◌∷◌}
use Rattle.numbers.specs.Words.{ℕ, zero, suc, Bool, true, false, not, eqb, ltb, List, [], ℤ, Result, Ok, Err}
use Rattle.header.specs.Header.{segments_on, map_on, sharpness, present_at_of}
use Rattle.tile.specs.declared.Tile.{Tile}
use Rattle.lent.specs.Memory.{Memory, sizes_of, mode_found}
use Rattle.choices.specs.Choices.{Call, failed, refusal_of, named, refusal_number_of, number_of, values_of, Decoded}
use Rattle.picture.specs.Picture.{picture_of}
use Rattle.profile.specs.declared.Misfit.{Misfit}
use Rattle.profile.specs.declared.Misfit.TheVariants as P

-- ---- the rules
-- 1: the tile is 256 by 256
unfoldable pub size_fits_of : ℕ → ℕ → Bool
size_fits_of w h = eqb w 256 && eqb h 256

-- 2: it has 1, 2 or 4 token partitions
unfoldable pub count_fits_of : ℕ → Bool
count_fits_of n = eqb n 1 || eqb n 2 || eqb n 4

-- 3: segments are off, and there is no map (RFC 6386, section 9.3, 1880-1882)
unfoldable pub segments_fit_of : List ℤ → Bool
segments_fit_of h = not (present_at_of h segments_on) && not (present_at_of h map_on)

-- 4: the sharpness is 0 (section 9.4, 1943)
unfoldable pub sharpness_fits_of : List ℤ → Bool
sharpness_fits_of h = not (present_at_of h sharpness)

-- 1 and 2 by number, 0 where both hold
unfoldable pub tile_rules_of : Tile → ℕ
tile_rules_of t = failed 1 (size_fits_of t.width t.height ∷ count_fits_of t.count ∷ [])

-- 3 and 4 by number, 0 where both hold
unfoldable pub header_rules_of : List ℤ → ℕ
header_rules_of h = failed 3 (segments_fit_of h ∷ sharpness_fits_of h ∷ [])

-- 6: macroblock k is skipped and small, as its mode record says
abbrev pub both_at : List ℕ → ℕ → Bool
both_at modes k = (mode_found modes k).kinds.skip && (mode_found modes k).kinds.small

-- the first of n macroblocks from k on that is both; where none is, the one behind them
unfoldable pub first_both_of : (n k : ℕ) → List ℕ → ℕ
first_both_of zero k modes = k
first_both_of (suc n) k modes = elim (both_at modes k) [ true ↦ k | false ↦ first_both_of n (suc k) modes ]

-- ---- it fits, or why not
abbrev pub Profiled : Type 0
Profiled = Result (Unit {0}) Misfit

-- the answer for a picture of so many macroblocks with these modes
unfoldable pub judged_of : (blocks : ℕ) → List ℕ → Profiled
judged_of blocks modes = elim (ltb (first_both_of blocks 0 modes) blocks) [ true ↦ Err (P.Macroblock (first_both_of blocks 0 modes)) | false ↦ Ok tt ]

-- 5 and 6, by the picture call's answer and the mode memory that it left
unfoldable pub decoded_of : Decoded → List ℕ → Profiled
decoded_of answer modes = elim (number_of answer) [ zero ↦ judged_of (values_of answer) modes | suc n ↦ Err (P.Rule 5) ]

-- ---- the answer, with the lent memory
pub record ProfileEnded : Type 0 where
  pub answer : Profiled
  pub mem : Memory

-- the two as one
abbrev pub profiled : Profiled → Memory → ProfileEnded
profiled answer mem = record { answer = answer; mem = mem }

-- THE CALL: the rules 1 and 2; the picture call's own checks, of which 3, 4 and 5 are left; the rules 3 and 4; the picture call, and what it shows
unfoldable pub profile_of : Call → Memory → ProfileEnded
profile_of c m =
    elim (tile_rules_of c.tile) [
      | suc n ↦ profiled (Err (P.Rule (suc n))) m
      | zero ↦ elim (refusal_of c (sizes_of m)) [
        | suc n ↦ profiled (Err (P.Refused (named (suc n)))) m
        | zero ↦ elim (header_rules_of c.header) [
          | suc n ↦ profiled (Err (P.Rule (suc n))) m
          | zero ↦ profiled (decoded_of (picture_of c m).answer (picture_of c m).mem.modes) (picture_of c m).mem
        ]
      ]
    ]

-- ---- the answer as numbers: the rule that fails, 0 where none does or an argument is refused
abbrev pub profile_rule_of : Profiled → ℕ
profile_rule_of (Ok u) = 0
profile_rule_of (Err (P.Rule n)) = n
profile_rule_of (Err (P.Macroblock k)) = 6
profile_rule_of (Err (P.Refused n)) = 0

-- the macroblock that rule 6 names, else 0
abbrev pub profile_block_of : Profiled → ℕ
profile_block_of (Ok u) = 0
profile_block_of (Err (P.Rule n)) = 0
profile_block_of (Err (P.Macroblock k)) = k
profile_block_of (Err (P.Refused n)) = 0

-- the argument check that fails, 0 where none does
abbrev pub profile_number_of : Profiled → ℕ
profile_number_of (Ok u) = 0
profile_number_of (Err (P.Rule n)) = 0
profile_number_of (Err (P.Macroblock k)) = 0
profile_number_of (Err (P.Refused r)) = refusal_number_of r
