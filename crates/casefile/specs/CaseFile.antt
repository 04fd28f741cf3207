-- The layout of a case file, big-endian: version (1 byte); length of the rest (4); width, height (2 each); count (1); 1096 header
-- entries (2 each, signed); the lengths of the first partition and of `count` token partitions (4 each); their bytes.
use Rattle.std.specs.Prelude.{◌+◌, ◌*◌, ◌≤◌, ◌&&◌, ◌-ℤ◌}
use Rattle.numbers.specs.Words.{ℕ, zero, suc, Bool, true, false, eqb, ltb, leb, List, length, build, byte_at, ℤ, pos}
use Rattle.reader.specs.Reading.{first_reader}
use Rattle.tile.specs.declared.Span.{Span}
use Rattle.tile.specs.declared.Tile.{Tile}
use Rattle.tile.specs.Tile.{contents_of, no_span}
use Rattle.choices.specs.Choices.{Call, call_of}

-- ---- numbers of one, two and four bytes
-- two bytes, the higher first
unfoldable pub half_at : List ℕ → ℕ → ℕ
half_at s i = byte_at s i * 256 + byte_at s (i + 1)

-- four bytes, the highest first
unfoldable pub word_at : List ℕ → ℕ → ℕ
word_at s i = half_at s i * 65536 + half_at s (i + 2)

-- two bytes as a signed number
unfoldable pub case_signed : ℕ → ℤ
case_signed n = elim (ltb n 32768) [ true ↦ pos n | false ↦ pos n -ℤ pos 65536 ]

-- ---- the fields
abbrev pub case_version : List ℕ → ℕ
case_version s = byte_at s 0

-- how many bytes follow the length
abbrev pub rest_of : List ℕ → ℕ
rest_of s = word_at s 1

-- the width in samples
abbrev pub case_width : List ℕ → ℕ
case_width s = half_at s 5

-- the height in samples
abbrev pub case_height : List ℕ → ℕ
case_height s = half_at s 7

-- the count of token partitions
abbrev pub case_count : List ℕ → ℕ
case_count s = byte_at s 9

-- header entry i
abbrev pub entry_at : List ℕ → ℕ → ℤ
entry_at s i = case_signed (half_at s (10 + 2 * i))

-- all 1096 header entries
unfoldable pub case_header : List ℕ → List ℤ
case_header s = build 1096 (entry_at s)

-- ---- partitions: 0 is the first, then the token partitions
abbrev pub length_at : List ℕ → ℕ → ℕ
length_at s i = word_at s (2202 + 4 * i)

-- behind the lengths and the partitions before it
unfoldable pub start_at : List ℕ → ℕ → ℕ
start_at s zero = 2206 + 4 * case_count s
start_at s (suc i) = start_at s i + length_at s i

-- where partition i starts, and its length
abbrev pub partition_at : List ℕ → ℕ → Span
partition_at s i = record { start = start_at s i; len = length_at s i }

-- what is handed on of the token partitions: eight, and past the count the empty span
unfoldable pub slot_of : List ℕ → ℕ → Span
slot_of s i = elim (ltb i (case_count s)) [ true ↦ partition_at s (i + 1) | false ↦ no_span ]

-- the eight of them
unfoldable pub case_spans : List ℕ → List Span
case_spans s = build 8 (slot_of s)

-- ---- well-formed: version 1, as long as the file says, no byte missing or left over; at most 64 KiB, and no side over 64
unfoldable pub case_whole : List ℕ → Bool
case_whole s = leb (2206 + 4 * case_count s) (length s) && eqb (start_at s (case_count s + 1)) (length s)

-- all of that
unfoldable pub well_formed_of : List ℕ → Bool
well_formed_of s =
    leb 2206 (length s)
    && (leb (length s) 65536 && eqb (case_version s) 1 && eqb (rest_of s + 5) (length s) && leb (case_width s) 64 && leb (case_height s) 64 && case_whole s)

-- ---- what the picture call is given of it
-- the first partition is opened afresh
abbrev pub case_tile : List ℕ → Tile
case_tile s = record {
  first = partition_at s 0;
  tokens = case_spans s;
  reader = first_reader (contents_of s (partition_at s 0));
  count = case_count s;
  width = case_width s;
  height = case_height s;
}

-- the bytes, the tile and the header: the picture call's arguments
abbrev pub given_of : List ℕ → Call
given_of s = call_of s (case_tile s) (case_header s)

-- a file long enough for its own counts, of at most 64 by 64 samples
pub record Formed (s : List ℕ) : Type 0 where
  pub long : 2206 ≤ length s
  pub width : case_width s ≤ 64
  pub height : case_height s ≤ 64
  pub room : 2206 + 4 * case_count s ≤ length s
