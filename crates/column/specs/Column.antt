-- A macroblock column's context in four bytes (request M-107), and back.
use Rattle.std.specs.Prelude.{◌+◌, ◌*◌, ◌/◌, ◌%◌, ◌∷◌, ◌++◌}
use Rattle.numbers.specs.Words.{ℕ, zero, suc, List, [], get_or}
use Rattle.modes.specs.declared.contexts.Context.{Context}

-- ---- numbers packed into one
-- numbers below `size` as the digits of one, the first lowest
unfoldable pub packed_of : (size : ℕ) → List ℕ → ℕ
packed_of size [] = 0
packed_of size (x ∷ l) = x + packed_of size l * size

-- the n lowest digits of a number, the lowest first
unfoldable pub digits_of : (size n : ℕ) → ℕ → List ℕ
digits_of size zero v = []
digits_of size (suc n) v = v % size ∷ digits_of size n (v / size)

-- a 16-bit number, big-endian
abbrev pub half_bytes : ℕ → List ℕ
half_bytes v = v / 256 % 256 ∷ v % 256 ∷ []

-- the number that the bytes at two places hold
abbrev pub half_of : (high low : ℕ) → ℕ
half_of high low = high * 256 + low

-- ---- a context: four modes of four bits, the first lowest, in a 16-bit number; then nine flags of one bit, the first lowest, in another,
-- the bits above them 0
abbrev pub packed_bytes : Context → List ℕ
packed_bytes c = half_bytes (packed_of 16 c.modes) ++ half_bytes (packed_of 2 c.flags)

-- the context that four bytes hold
abbrev pub context_unpacked : List ℕ → Context
context_unpacked b = record { modes = digits_of 16 4 (half_of (get_or b 0 0) (get_or b 1 0)); flags = digits_of 2 9 (half_of (get_or b 2 0) (get_or b 3 0)) }
