-- What the writer of a file stores: the twenty bytes before a frame, and bytes from a place on.
use Rattle.std.specs.Prelude.{◌+◌, ◌++◌}
use Rattle.numbers.specs.Words.{ℕ, List, length, take, drop}
use Rattle.webp.specs.Webp.{uint32_of, riff, webp, vp8, riff_size}

-- the twenty bytes before a frame of n
unfoldable pub head_of : ℕ → List ℕ
head_of n = riff ++ uint32_of (riff_size n) ++ webp ++ vp8 ++ uint32_of n

-- a list with b stored from a place on
unfoldable pub laid : List ℕ → ℕ → List ℕ → List ℕ
laid out at b = take at out ++ (b ++ drop (at + length b) out)
