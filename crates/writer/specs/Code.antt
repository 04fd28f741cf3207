-- The number that a list of symbols is coded as, exactly: each symbol narrows an interval, and the code is the last interval's bottom.
use Rattle.std.specs.Prelude.{◌+◌, ◌*◌, ◌^◌, ◌∷◌}
use Rattle.numbers.specs.Words.{ℕ, zero, suc, true, false, ltb, List, []}
use Rattle.reader.specs.Reading.{split_of, CodedSymbol}
use Rattle.writer.specs.Encoder.{offset_of, width_of}

-- bytes as one number, the first highest, and the number one past all of that length
unfoldable pub size : List ℕ → ℕ
size [] = 1
size (b ∷ l) = 256 * size l

unfoldable pub number : List ℕ → ℕ
number [] = 0
number (b ∷ l) = b * size l + number l

abbrev pub part_width : ℕ → CodedSymbol → ℕ
part_width range q = width_of range (split_of range q.prob) q.bit

-- doublings of a width until it is at least 128, at most n: how many, and the width after them
unfoldable pub lifts_of : ℕ → ℕ → ℕ
lifts_of zero w = 0
lifts_of (suc n) w = elim (ltb w 128) [ true ↦ suc (lifts_of n (w * 2)) | false ↦ 0 ]

unfoldable pub lifted_of : ℕ → ℕ → ℕ
lifted_of zero w = w
lifted_of (suc n) w = elim (ltb w 128) [ true ↦ lifted_of n (w * 2) | false ↦ w ]

-- from a range on: the doublings that the symbols take, and the bottom of their last interval above the first one's, after that many
unfoldable pub bits_of : List CodedSymbol → ℕ → ℕ
bits_of [] range = 0
bits_of (q ∷ qs) range = lifts_of 7 (part_width range q) + bits_of qs (lifted_of 7 (part_width range q))

unfoldable pub code_of : List CodedSymbol → ℕ → ℕ
code_of [] range = 0
code_of (q ∷ qs) range =
    offset_of (split_of range q.prob) q.bit * 2 ^ (lifts_of 7 (part_width range q) + bits_of qs (lifted_of 7 (part_width range q)))
    + code_of qs (lifted_of 7 (part_width range q))
