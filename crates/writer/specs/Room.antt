-- The encoder as the code has it (RFC 6386, section 7.3): its four numbers by value, and beside them the room that is lent, where what it
-- writes stands from the start on. What lies past the room's end is not written; the four numbers go on all the same.
use Rattle.std.specs.Prelude.{◌+◌, ◌-◌, ◌*◌, ◌/◌, ◌%◌, ◌^◌, ◌≤◌, ◌<◌, ◌&&◌}
use Rattle.numbers.specs.Words.{ℕ, Bool, true, false, ltb, leb, List, set}
use Rattle.wide.specs.Wide.{less32, doublings_of}
pub use Rattle.writer.specs.declared.Writer.{Writer}
use Rattle.writer.specs.Encoder.{add_one_of}

-- the writer and its room
pub record Written : Type 0 where
  pub writer : Writer
  pub room : List ℕ

-- the two as one
abbrev pub written_of : Writer → List ℕ → Written
written_of w room = record { writer = w; room = room }

-- init_bool_encoder
abbrev pub fresh_writer : Writer
fresh_writer = record { at = 0; range = 255; bottom = 0; count = 24 }

-- add_one_to_output, where there is a carry
abbrev pub carried_in : Bool → (at : ℕ) → List ℕ → List ℕ
carried_in true at room = add_one_of at room
carried_in false at room = room

-- a byte that is due: its lowest eight bits are written, and what lies above them is a carry
abbrev pub byte_in : List ℕ → (at due : ℕ) → List ℕ
byte_in room at due = set (carried_in (leb 256 due) at room) at (due % 256)

-- ---- write_bool, its shifts all at once. Arithmetic wraps as the code's does
-- split = 1 + (((range - 1) * probability) >> 8), of a product of 32 bits
abbrev pub split_in : (range prob : ℕ) → ℕ
split_in range prob = 1 + less32 range 1 * prob % 2 ^ 32 / 256

-- the width of the part that the bit chooses
abbrev pub width_in : (range split : ℕ) → Bool → ℕ
width_in range split true = less32 range split
width_in range split false = split

-- its bottom
abbrev pub raised_in : (bottom split : ℕ) → Bool → ℕ
raised_in bottom split true = (bottom + split) % 2 ^ 32
raised_in bottom split false = bottom

-- k shifts of the bottom have made `high`, and the count has ended: the byte above its lowest 24 bits, and above those of the shifts that
-- followed, is due
unfoldable pub loud_in : Writer → List ℕ → (range high k : ℕ) → Written
loud_in w room range high k =
    let s = (24 + (k - w.count)) % 64 in
    record {
      writer = record { at = (w.at + 1) % 2 ^ 64; range = range; bottom = high % 2 ^ s % 2 ^ 32; count = less32 8 (k - w.count) };
      room = byte_in room w.at (high / 2 ^ s);
    }

-- the shifts that a range needs; none of them ends the count, or one does
unfoldable pub shifted_in : Writer → List ℕ → (range bottom : ℕ) → Written
shifted_in w room range bottom =
    let k = doublings_of range in
    let grown = range * 2 ^ (k % 32) % 2 ^ 32 in
    let high = bottom * 2 ^ k % 2 ^ 64 in
    elim (leb w.count k) [
      | true ↦ loud_in w room grown high k
      | false ↦ written_of (record { at = w.at; range = grown; bottom = high % 2 ^ 32; count = w.count - k }) room
    ]

-- `write`
unfoldable pub write_in : Writer → List ℕ → ℕ → Bool → Written
write_in w room prob b =
    let split = split_in w.range prob in
    shifted_in w room (width_in w.range split b) (raised_in w.bottom split b)

-- four bytes, the highest first, from a place on
abbrev pub four_in : List ℕ → (at v : ℕ) → List ℕ
four_in room at v = set (set (set (set room at (v / 16777216 % 256)) (at + 1) (v / 65536 % 256)) (at + 2) (v / 256 % 256)) (at + 3) (v % 256)

-- flush_bool_encoder: the carry that is left, then the four bytes of `bottom`, shifted to its top
unfoldable pub flush_in : Writer → List ℕ → List ℕ
flush_in w room = four_in (carried_in (leb (2 ^ (32 - w.count)) w.bottom) w.at room) w.at (w.bottom * 2 ^ w.count % 4294967296)

-- ---- the end
-- a writer in range: fewer than 2^63 bytes written, `bottom` and `range` at most 2^32 together, range 128..255, count 1..24
unfoldable pub writer_fine : Writer → Bool
writer_fine w =
    (ltb w.at 9223372036854775808 && leb (w.bottom + w.range) 4294967296)
    && ((leb 128 w.range && ltb w.range 256) && (leb 1 w.count && leb w.count 24))

-- how many bytes are written in all, and the room
pub record FlushEnd : Type 0 where
  pub long : ℕ
  pub room : List ℕ

-- the two as one
abbrev pub ended_of : ℕ → List ℕ → FlushEnd
ended_of n room = record { long = n; room = room }

-- `flush`: a writer out of range writes nothing
unfoldable pub flush_answer : Writer → List ℕ → FlushEnd
flush_answer w room = elim (writer_fine w) [ true ↦ ended_of (w.at + 4) (flush_in w room) | false ↦ ended_of 0 room ]

-- what `flush` asks
pub record Fine (low : ℕ) (w : Writer) : Type 0 where
  pub some : 1 ≤ w.count
  pub near : w.at < 9223372036854775808
  pub least : low ≤ w.range
  pub most : w.range < 256
