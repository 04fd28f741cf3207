-- Request M-106: strength records know their segment. `same_kinds` and `kinds_ignored`, in SegmentsLaws, prove it; `rescue_same_kinds`, in
-- RescueDeblockedLaws, what concerns the rescue call.
use Rattle.std.specs.Prelude.{◌+◌, ◌*◌, ◌<◌, ◌≡◌}
use Rattle.numbers.specs.Words.{ℕ, List, length, get_or}
use Rattle.lent.specs.Memory.{mode_width, strength_width, Memory}
use Rattle.promises.specs.Places.{mode_byte, strength_byte}

-- THE PROMISE of the memory that the picture call leaves after 0, 6 and 7, and the rescue call after 0: of every macroblock, grey or not, the
-- strength record's fifth and sixth byte are the segment and the small byte of its mode record, that is its first and its third
pub record SameKinds (m : Memory) : Type 0 where
  pub segment : (k : ℕ) → strength_byte (k * strength_width + 4) m ≡ mode_byte (k * mode_width + 0) m
  pub small : (k : ℕ) → strength_byte (k * strength_width + 5) m ≡ mode_byte (k * mode_width + 2) m

-- strength memories that differ in no byte but the last two of a record
pub record SameStrengths (s t : List ℕ) : Type 0 where
  pub long : length s ≡ length t
  pub four : (k j : ℕ) → j < 4 → get_or s (k * strength_width + j) 0 ≡ get_or t (k * strength_width + j) 0
