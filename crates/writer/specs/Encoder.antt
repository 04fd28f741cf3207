-- The boolean encoder (RFC 6386, section 7.3).
use Rattle.std.specs.Prelude.{◌+◌, ◌-◌, ◌*◌, ◌/◌, ◌%◌, ◌^◌, ◌∷◌, ◌++◌}
use Rattle.numbers.specs.Words.{ℕ, zero, suc, Bool, true, false, eqb, ltb, leb, List, [], length, get_or, set}
use Rattle.reader.specs.Reading.{split_of, CodedSymbol}

-- the RFC's bool_encoder (7.3, 1131-1137): the bytes written, `range`, `bottom` (32 bits), `count` its bit_count
pub record Encoder : Type 0 where
  pub out : List ℕ
  pub range : ℕ
  pub bottom : ℕ
  pub count : ℕ

-- init_bool_encoder (1141-1147)
abbrev pub fresh : Encoder
fresh = record { out = []; range = 255; bottom = 0; count = 24 }

-- add_one_to_output (1155-1160), from the end of the first n bytes down: each 255 becomes 0, and the first other byte takes the one
unfoldable pub add_one_of : ℕ → List ℕ → List ℕ
add_one_of zero l = l
add_one_of (suc i) l = elim (eqb (get_or l i 0) 255) [ true ↦ add_one_of i (set l i 0) | false ↦ set l i (get_or l i 0 + 1) ]

-- the same where there is a carry
unfoldable pub carried : Bool → List ℕ → List ℕ
carried true l = add_one_of (length l) l
carried false l = l

-- one shift: the top bit of `bottom` is a carry; where the count ends, its top byte is written
unfoldable pub shift_out : Encoder → Encoder
shift_out e =
    elim (eqb e.count 1) [
      | true ↦ record {
        out = carried (leb 2147483648 e.bottom) e.out ++ (e.bottom * 2 % 4294967296 / 16777216 ∷ []);
        range = e.range * 2;
        bottom = e.bottom * 2 % 4294967296 % 16777216;
        count = 8;
      }
      | false ↦ record {
        out = carried (leb 2147483648 e.bottom) e.out;
        range = e.range * 2;
        bottom = e.bottom * 2 % 4294967296;
        count = e.count - 1;
      }
    ]

-- while the range is below 128, shift; at most n times
unfoldable pub emit : ℕ → Encoder → Encoder
emit zero e = e
emit (suc n) e = elim (ltb e.range 128) [ true ↦ emit n (shift_out e) | false ↦ e ]

-- the part of a range that a bit chooses: how much of it lies below that part
abbrev pub offset_of : ℕ → Bool → ℕ
offset_of x true = x
offset_of x false = 0

-- its width
abbrev pub width_of : ℕ → ℕ → Bool → ℕ
width_of range x true = range - x
width_of range x false = x

-- the part that the bit chooses
abbrev pub chosen : Encoder → ℕ → Bool → Encoder
chosen e x b = record { out = e.out; range = width_of e.range x b; bottom = e.bottom + offset_of x b; count = e.count }

-- write_bool (1165-1207)
unfoldable pub write_of : Encoder → CodedSymbol → Encoder
write_of e q = emit 7 (chosen e (split_of e.range q.prob) q.bit)

-- one symbol after another
unfoldable pub write_all : Encoder → List CodedSymbol → Encoder
write_all e [] = e
write_all e (q ∷ qs) = write_all (write_of e q) qs

-- four bytes, the highest first
abbrev pub four_of : ℕ → List ℕ
four_of v = v / 16777216 ∷ v / 65536 % 256 ∷ v / 256 % 256 ∷ v % 256 ∷ []

-- flush_bool_encoder (1212-1228): the carry that is left, then the four bytes of `bottom`, shifted to its top
unfoldable pub flush_of : Encoder → List ℕ
flush_of e = carried (leb (2 ^ (32 - e.count)) e.bottom) e.out ++ four_of (e.bottom * 2 ^ e.count % 4294967296)

-- THE BYTES of a list of symbols
unfoldable pub encode_of : List CodedSymbol → List ℕ
encode_of qs = flush_of (write_all fresh qs)
