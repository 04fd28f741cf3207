-- The boolean decoder of RFC 6386, section 7.3, 1239-1313, with a window of 64 bits: what its calls give, for every input. Arithmetic wraps
-- as the code's does. `top` is the RFC's range less one; the RFC's value is the top of `value`, its bit_count stands in `count`.
use Rattle.std.specs.Prelude.{◌+◌, ◌-◌, ◌*◌, ◌/◌, ◌%◌, ◌^◌}
use Rattle.numbers.specs.Words.{ℕ, bit_xor, count_leading_zeros, Bool, true, false, ltb, leb, bit_of, List, length, get_or}
use Rattle.reader.specs.declared.boolean.Reader.{Reader}
pub use Rattle.wide.specs.declared.wide.Wide.{Wide}
pub use Rattle.wide.specs.declared.wide.Bit.{Bit}

-- a difference that wraps
abbrev pub less32 : ℕ → ℕ → ℕ
less32 a b = (a + (2 ^ 32 - b)) % 2 ^ 32

-- the same in 64 bits
abbrev pub less64 : ℕ → ℕ → ℕ
less64 a b = (a + (2 ^ 64 - b)) % 2 ^ 64

-- ---- four bytes more, zeros past the end, below the bits that are loaded
abbrev pub four_of : List ℕ → ℕ → ℕ
four_of s at = get_or s at 0 * 16777216 + get_or s (at + 1) 0 * 65536 + get_or s (at + 2) 0 * 256 + get_or s (at + 3) 0

-- with them
abbrev pub more_of : List ℕ → Wide → Wide
more_of s w = record { at = (w.at + 4) % 2 ^ 64; value = (w.value + four_of s w.at * 2 ^ (32 - w.count)) % 2 ^ 64; top = w.top; count = w.count + 32 }

-- where fewer than 32 are loaded
unfoldable pub fill_of : List ℕ → Wide → Wide
fill_of s w = elim (leb 32 w.count) [ true ↦ w | false ↦ more_of s w ]

-- ---- one symbol (read_bool). split = 1 + (((range - 1) * probability) >> 8), less one, of a product of 32 bits; a one is where the top eight
-- bits are above it: value >= SPLIT
abbrev pub low_of : Wide → ℕ → ℕ
low_of w prob = w.top * prob % 2 ^ 32 / 256

-- the bit
abbrev pub on_of : Wide → ℕ → Bool
on_of w prob = ltb (low_of w prob) (w.value / 2 ^ 56)

-- what the bit leaves of the range: range -= split, or range = split
abbrev pub range_of : ℕ → ℕ → Bool → ℕ
range_of top x true = top - x
range_of top x false = x + 1

-- what a one takes off the value: value -= SPLIT
abbrev pub taken_off : ℕ → Bool → ℕ
taken_off x true = (x + 1) * 2 ^ 56
taken_off x false = 0

-- while (range < 128), both are doubled: how often, for a range of 1..255, is its leading zeros of 32 bits, 24 to 31, without the bits of 24
unfoldable pub doublings_of : ℕ → ℕ
doublings_of range = bit_xor (count_leading_zeros 32 range) 24

-- all of them at once
abbrev pub lifted_of : Wide → ℕ → ℕ → Wide
lifted_of w value range =
    record {
      at = w.at;
      value = value * 2 ^ doublings_of range % 2 ^ 64;
      top = less32 (range * 2 ^ (doublings_of range % 32) % 2 ^ 32) 1;
      count = less32 w.count (doublings_of range);
    }

-- the symbol and the reader after it
unfoldable pub wide_bit_of : Wide → ℕ → Bit
wide_bit_of w prob =
    record {
      on = on_of w prob;
      next = lifted_of w (w.value - taken_off (low_of w prob) (on_of w prob)) (range_of w.top (low_of w prob) (on_of w prob));
    }

-- ---- one symbol at probability 128 (the sign of a number, section 13.2, 3504) where the range is below 255: a half of it, doubled once, less one
abbrev pub odd_of : ℕ → Bool → ℕ
odd_of top on = less32 top (bit_of on) / 2 * 2 + 1

-- one doubling
abbrev pub doubled_of : Wide → (value top : ℕ) → Wide
doubled_of w value top = record { at = w.at; value = value * 2 ^ 1 % 2 ^ 64; top = top; count = less32 w.count 1 }

-- the bit: whether the value is in the upper half
abbrev pub upper_of : Wide → Bool
upper_of w = ltb (w.top / 2) (w.value / 2 ^ 56)

-- the symbol and the reader after it
unfoldable pub half_of : Wide → Bit
half_of w = record { on = upper_of w; next = doubled_of w (w.value - taken_off (w.top / 2) (upper_of w)) (odd_of w.top (upper_of w)) }

-- ---- from a reader of sixteen bits and back
unfoldable pub widen_of : Reader → Wide
widen_of r = record { at = r.at; value = r.window * 2 ^ 48 % 2 ^ 64; top = less32 r.range 1; count = 16 - r.shifts % 8 }

-- whether the next eight bits lie in s
unfoldable pub eight_inside : List ℕ → Wide → Bool
eight_inside s w = ltb w.at (length s + w.count / 8)

-- how many bytes the reader of sixteen bits is behind: those loaded, a begun one counted whole
abbrev pub back_of : ℕ → ℕ
back_of count = count / 8 + (count % 8 + 7) / 8

-- how many bits of its last byte are used up
abbrev pub shifts_of : ℕ → ℕ
shifts_of count = (8 - count % 8) % 8

-- the reader that a wide one stands for
unfoldable pub narrow_of : List ℕ → Wide → Reader
narrow_of s w =
    record {
      at = less64 ((w.at + 2) % 2 ^ 64) (back_of w.count);
      range = w.top % 256 + 1;
      shifts = shifts_of w.count;
      window = (fill_of s w).value / 2 ^ 48 / 2 ^ shifts_of w.count * 2 ^ shifts_of w.count;
    }
