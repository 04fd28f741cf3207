-- What is told of memory: the sum of its bytes, and their hash, FNV-1a of 64 bits.
use Rattle.std.specs.Prelude.{◌+◌, ◌*◌, ◌%◌}
use Rattle.numbers.specs.Words.{ℕ, zero, suc, bit_xor, List, length, get_or}

-- ---- the sum of the first i bytes, of all
unfoldable pub sum_to : List ℕ → ℕ → ℕ
sum_to l zero = 0
sum_to l (suc i) = sum_to l i + get_or l i 0

-- the sum of all bytes
unfoldable pub sum_of : List ℕ → ℕ
sum_of l = sum_to l (length l)

-- ---- h = 0xcbf29ce484222325; for each byte h = (h xor byte) * 0x100000001b3 modulo 2^64
unfoldable pub fnv_step : ℕ → ℕ → ℕ
fnv_step h byte = bit_xor h byte * 1099511628211 % 18446744073709551616

-- after the first i bytes
unfoldable pub fnv_to : List ℕ → ℕ → ℕ
fnv_to l zero = 14695981039346656037
fnv_to l (suc i) = fnv_step (fnv_to l i) (get_or l i 0)

-- after all of them
unfoldable pub fnv_of : List ℕ → ℕ
fnv_of l = fnv_to l (length l)
