-- How far deblocking can move a sample once all its edges are done: the bounds that follow from the kernel's. MovesLaws.antt proves them.
use Rattle.std.specs.Prelude.{◌+◌, ◌-◌, ◌*◌, ◌/◌, ◌≤◌}
use Rattle.numbers.specs.Words.{ℕ, zero, suc, Bool, true, false, get_or}
use Rattle.filter.specs.Moves.{farthest}
use Rattle.predict.specs.Predict.{Size}

-- A plane of `len` samples that holds wide by high squares of n by n, at most 16384 samples across and down.
pub record PlaneGrid (len n wide high : ℕ) : Type 0 where
  pub size : Size n
  pub across : wide * n ≤ 16384
  pub down : high * n ≤ 16384
  pub area : high * n * (wide * n) ≤ len

-- d 0, d 1, .. d (n - 1) added up
abbrev pub total : ℕ → (ℕ → ℕ) → ℕ
total zero d = 0
total (suc n) d = total n d + d n

-- How far the edge before place X of a line can move the sample at x, which is number x + 4 - X of the eight across. Farther before the
-- edge that number is 0, that of p3, which never moves; behind q3 there is none.
abbrev pub tap : (simple outer : Bool) (X x : ℕ) → ℕ
tap simple outer X x = get_or (farthest simple outer) (x + 4 - X) 0

-- How far the edges of macroblock c of the line, n samples wide, can: its first, and those inside, four apart.
abbrev pub line : (simple : Bool) (n c x : ℕ) → ℕ
line simple n c x = tap simple true (c * n) x + total (n / 4 - 1) (λ j. tap simple false (c * n + 4 * j + 4) x)

-- How far all edges of the line can move the sample at place m of its macroblock: its own and those of the next.
unfoldable pub reach_of : (simple : Bool) (n m : ℕ) → ℕ
reach_of simple n m = line simple n 0 m + line simple n 1 m

-- The largest that `reach_of` gives.
abbrev pub most : (simple : Bool) → ℕ
most true = 16
most false = 27
