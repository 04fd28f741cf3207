-- A block of 128 samples, in which sixteen positions of an edge stand side by side: sample k of position i is its element i + 16 * k. So the
-- block is itself a small plane, 16 wide and 8 high, with one edge across its middle: `sweep_of g 0 1 16 16`.
use Rattle.std.specs.Prelude.{◌+◌, ◌*◌, ◌/◌, ◌%◌}
use Rattle.numbers.specs.Words.{ℕ, zero, suc, Bool, List, get_or, build, copied}
use Rattle.filter.specs.Kernel.{samples_across}
use Rattle.straight.specs.Straight.{acts_of}
use Rattle.deblock.specs.Deblock.{Edge, across_of}

-- whether a rule acts on each of the sixteen
unfoldable pub acting_of : Edge → List ℕ → List Bool
acting_of g t = build 16 (λ i. acts_of (samples_across (across_of t i 16)) g.simple g.limit g.inner)

-- `to` with rows of n samples of `from`, v apart from its place `start` on, in places w apart from `at` on
unfoldable pub rows_copied : (to : List ℕ) (at w : ℕ) (from : List ℕ) (start v n rows : ℕ) → List ℕ
rows_copied to at w from start v n zero = to
rows_copied to at w from start v n (suc r) = copied (rows_copied to at w from start v n r) (at + r * w) from (start + r * v) n

-- the two halves of a block, sample by sample in turn
unfoldable pub shuffled_of : List ℕ → List ℕ
shuffled_of t = build 128 (λ j. get_or t (j / 2 + j % 2 * 64) 0)

-- the columns of sixteen rows of eight, one after the other; and the rows of which such columns are
unfoldable pub columns_of : List ℕ → List ℕ
columns_of t = build 128 (λ j. get_or t (j % 16 * 8 + j / 16) 0)

unfoldable pub sample_rows : List ℕ → List ℕ
sample_rows t = build 128 (λ j. get_or t (j % 8 * 16 + j / 8) 0)
