-- What all macroblocks of a picture share, from the header (RFC 6386, sections 9.3, 9.4, 9.6, 9.11, 10 and 14.1: the files of each have the lines).
use Rattle.std.specs.Prelude.{◌+◌, ◌<◌, ◌∷◌}
use Rattle.numbers.specs.Words.{ℕ, Option, Some, None, Bool, true, false, List, [], get_or, ℤ, up_to}
use Rattle.header.specs.Header.{map_on, map_probability, sharpness, skips_on, skip_probability_of, entry, present_at_of, probability_at_of, header_of}
use Rattle.header.specs.Quantizers.{Factors, factors_of_of, no_factors}
use Rattle.header.specs.Levels.{level_of_of}
pub use Rattle.header.specs.declared.frame.Announced.{Announced}
pub use Rattle.header.specs.declared.frame.Frame.{Frame}

-- the filter levels of the four segments, for small modes or large
abbrev pub levels_of : List ℤ → Bool → List ℕ
levels_of h small = level_of_of h 0 small ∷ level_of_of h 1 small ∷ level_of_of h 2 small ∷ level_of_of h 3 small ∷ []

-- what stands before each macroblock's modes
unfoldable pub announced_of : List ℤ → Announced
announced_of h = record {
  map = present_at_of h map_on;
  map_probabilities = probability_at_of h map_probability ∷ probability_at_of h (map_probability + 1) ∷ probability_at_of h (map_probability + 2) ∷ [];
  skips = present_at_of h skips_on;
  skip_probability = probability_at_of h skip_probability_of;
}

-- the four segments' factors and levels; a sharpness below 0 is none
unfoldable pub frame_of : List ℤ → Frame
frame_of h = record {
  factors = factors_of_of h 0 ∷ factors_of_of h 1 ∷ factors_of_of h 2 ∷ factors_of_of h 3 ∷ [];
  large = levels_of h false;
  small = levels_of h true;
  sharp = up_to 255 (entry h sharpness);
  announced = announced_of h;
}

-- the factors of a macroblock, by its segment
abbrev pub factors_at : Frame → ℕ → Factors
factors_at f segment = get_or f.factors segment no_factors

-- the level of a macroblock, by its segment and whether its modes are small
abbrev pub level_at : Frame → Bool → ℕ → ℕ
level_at f true segment = get_or f.small segment 0
level_at f false segment = get_or f.large segment 0

-- `take`: none where the header is not fine
unfoldable pub framed_of : List ℤ → Option Frame
framed_of h = elim (header_of h) [ true ↦ Some (frame_of h) | false ↦ None ]

-- its number: 0, or 9 for a header that is refused
abbrev pub frame_number_of : Option Frame → ℕ
frame_number_of (Some f) = 0
frame_number_of None = 9

-- probabilities are bytes
pub record Probabilities (a : Announced) : Type 0 where
  pub map : (i : ℕ) → get_or a.map_probabilities i 0 < 256
  pub skip : a.skip_probability < 256
