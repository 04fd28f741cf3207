-- The token partitions (RFC 6386, section 9.5, 1991-2031): after the first partition, at `table`, the sizes of all but the last, three bytes each;
-- then the partitions one after the other, the last up to the end of the frame.
use Rattle.std.specs.Prelude.{◌+◌, ◌-◌, ◌*◌, ◌^◌, ◌&&◌}
use Rattle.numbers.specs.Words.{ℕ, zero, suc, Bool, true, false, ltb, leb, List, length, build, all_below}
use Rattle.tile.specs.declared.Span.{Span}
use Rattle.tile.specs.Tile.{no_span}
use Rattle.frame.specs.Tag.{three_at}

-- log2_nbr_of_dct_partitions: 1, 2, 4 or 8 (1995-2005)
abbrev pub partition_count : ℕ → ℕ
partition_count partitions = 2 ^ partitions

module _ (b : List ℕ) (table count : ℕ) where
  -- the size of partition i (2030-2031); the last has none in the table (2008-2011)
  unfoldable pub partition_size : ℕ → ℕ
  partition_size i = elim (ltb (i + 1) count) [ true ↦ three_at b (table + 3 * i) | false ↦ 0 ]

  -- where partition i starts: the first after the table, each other where the one before it ends
  unfoldable pub partition_start : ℕ → ℕ
  partition_start zero = table + 3 * (count - 1)
  partition_start (suc i) = partition_start i + partition_size i

  -- the length of partition i if it starts at `at`: the last one goes to the end
  unfoldable pub length_of : ℕ → ℕ → ℕ
  length_of i at = elim (ltb (i + 1) count) [ true ↦ three_at b (table + 3 * i) | false ↦ length b - at ]

  -- partition i if it starts at `at`; past the count there is none
  unfoldable pub partition_span : ℕ → ℕ → Span
  partition_span i at = elim (ltb i count) [ true ↦ record { start = at; len = length_of i at } | false ↦ no_span ]

  -- the eight spans, empty past the count
  unfoldable pub token_spans : List Span
  token_spans = build 8 (λ i. partition_span i (partition_start i))

  -- what the second 13 refuses: sizes, or a token partition, past the end
  unfoldable pub tokens_inside_of : Bool
  tokens_inside_of =
      leb (table + 3 * (count - 1)) (length b)
      && all_below count (λ i. leb (partition_start i + length_of i (partition_start i)) (length b))
