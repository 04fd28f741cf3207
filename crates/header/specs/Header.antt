-- The header's 1096 entries.
use Rattle.std.specs.Prelude.{◌-◌, ◌%◌, ◌&&◌, ◌||◌}
use Rattle.numbers.specs.Words.{ℕ, zero, suc, Bool, true, false, not, eqb, List, length, get_or, ℤ, pos, negsuc, lt_z}

-- ==== The header's 1096 entries by name: which entry says what. Each layer reads its own, and the rest are ignored. A probability is an
-- entry modulo 256 (probability_of); what an entry announces is there where the entry is not 0 (present_of).

-- ---- segments (RFC 6386, section 9.3, 1880-1924)
-- 2: segments are on
abbrev pub segments_on : ℕ
segments_on = 2

-- 3: there is a map; where there is none, every macroblock's segment is 0
abbrev pub map_on : ℕ
map_on = 3

-- 5: a segment's own values are absolute, not added to the frame's
abbrev pub segments_absolute : ℕ
segments_absolute = 5

-- 6..9: the segments' own quantizer indices
abbrev pub segment_index : ℕ
segment_index = 6

-- 10..13: the segments' own filter levels
abbrev pub segment_level : ℕ
segment_level = 10

-- 14..16: the map's probabilities
abbrev pub map_probability : ℕ
map_probability = 14

-- ---- the loop filter (section 9.4, 1936-1984)
-- 18: the frame's level
abbrev pub frame_level : ℕ
frame_level = 18

-- 19: the sharpness
abbrev pub sharpness : ℕ
sharpness = 19

-- 20: deltas of the level are on
abbrev pub deltas_on : ℕ
deltas_on = 20

-- 22: the delta of intra frames
abbrev pub intra_delta : ℕ
intra_delta = 22

-- 26: the delta of small modes
abbrev pub small_delta : ℕ
small_delta = 26

-- ---- quantizer indices (section 9.6, 2046-2088)
-- 31: the frame's index
abbrev pub base_index : ℕ
base_index = 31

-- 32..36: the deltas of Y DC, Y2 DC, Y2 AC, UV DC, UV AC
abbrev pub ydc_delta : ℕ
ydc_delta = 32

-- 33: Y2 DC
abbrev pub y2dc_delta : ℕ
y2dc_delta = 33

-- 34: Y2 AC
abbrev pub y2ac_delta : ℕ
y2ac_delta = 34

-- 35: UV DC
abbrev pub uvdc_delta : ℕ
uvdc_delta = 35

-- 36: UV AC
abbrev pub uvac_delta : ℕ
uvac_delta = 36

-- ---- tokens and skipped macroblocks (sections 9.9, 2173-2179, and 9.11, 2252-2265)
-- 38..1093: the 1056 coefficient probabilities, at 38 + ((kind * 8 + band) * 3 + ctx) * 11 + j
abbrev pub coefficient_probability : ℕ
coefficient_probability = 38

-- the number of those: 4 kinds * 8 bands * 3 contexts * 11 nodes
abbrev pub probability_count : ℕ
probability_count = 1056

-- 1094: macroblocks have a skip flag
abbrev pub skips_on : ℕ
skips_on = 1094

-- 1095: its probability
abbrev pub skip_probability_of : ℕ
skip_probability_of = 1095

-- the number of entries
abbrev pub entry_count : ℕ
entry_count = 1096

-- ==== The header's entries, as every layer reads them.

-- entry i of the header; past the end it is 0
abbrev pub entry : List ℤ → ℕ → ℤ
entry h i = get_or h i (pos 0)

-- whether what an entry announces is there
abbrev pub present_of : ℤ → Bool
present_of (pos zero) = false
present_of (pos (suc n)) = true
present_of (negsuc n) = true

-- an entry as a probability, modulo 256: -1 is 255, -256 is 0
abbrev pub probability_of : ℤ → ℕ
probability_of (pos n) = n % 256
probability_of (negsuc n) = 255 - n % 256

-- whether what entry i announces is there
abbrev pub present_at_of : List ℤ → ℕ → Bool
present_at_of h i = present_of (entry h i)

-- the probability that entry i stands for
abbrev pub probability_at_of : List ℤ → ℕ → ℕ
probability_at_of h i = probability_of (entry h i)

-- an entry outside -255..255
abbrev pub outside : ℤ → Bool
outside x = lt_z x (negsuc 254) || lt_z (pos 255) x

-- none of the first i entries is outside
unfoldable pub fine_to : List ℤ → ℕ → Bool
fine_to h zero = true
fine_to h (suc i) = fine_to h i && not (outside (entry h i))

-- no entry is outside
unfoldable pub entries_of : List ℤ → Bool
entries_of h = fine_to h (length h)

-- all 1096 entries, none outside
unfoldable pub header_of : List ℤ → Bool
header_of h = eqb (length h) entry_count && entries_of h
