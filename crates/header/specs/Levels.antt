-- The filter level of a macroblock (RFC 6386, sections 9.4, 1948-1951, and 10, 2279-2287; which delta counts and where it is clamped stands in the
-- source alone, 20.6, 9165-9212).
use Rattle.std.specs.Prelude.{◌+◌, ◌&&◌, ◌+ℤ◌}
use Rattle.numbers.specs.Words.{ℕ, Option, Some, None, Bool, true, false, ltb, List, ℤ, pos, up_to}
use Rattle.header.specs.Header.{segment_level, frame_level, deltas_on, intra_delta, small_delta, entry, present_at_of, header_of}
use Rattle.header.specs.Own.{segmented_of}

-- the deltas that count: that of intra frames, and where modes are small theirs too
abbrev pub level_deltas : List ℤ → Bool → ℤ
level_deltas h true = entry h intra_delta +ℤ entry h small_delta
level_deltas h false = entry h intra_delta

-- what is added to the level: nothing where deltas are off
unfoldable pub delta_of : List ℤ → Bool → ℤ
delta_of h small = elim (present_at_of h deltas_on) [ true ↦ level_deltas h small | false ↦ pos 0 ]

-- the frame's level or the segment's own; clamped to 0..63, and again after the deltas
unfoldable pub level_of_of : List ℤ → ℕ → Bool → ℕ
level_of_of h segment small = up_to 63 (pos (up_to 63 (segmented_of h frame_level (segment_level + segment))) +ℤ delta_of h small)

-- `for_macroblock`: refused where the header is not fine or there is no such segment
unfoldable pub level_answer : List ℤ → ℕ → Bool → Option ℕ
level_answer h segment small = elim (header_of h && ltb segment 4) [ true ↦ Some (level_of_of h segment small) | false ↦ None ]

-- the answer's number: 0, or 9 for an argument that is refused
abbrev pub level_number_of : Option ℕ → ℕ
level_number_of (Some n) = 0
level_number_of None = 9
