-- A segment's own value of something that the frame has one of (RFC 6386, sections 9.3, 1871-1875, and 10, 2279-2287): its quantizer index
-- or its filter level. Absolute or added: section 19.2, 7007; source 20.4, 8041-8043, and 20.6, 9165-9175.
use Rattle.std.specs.Prelude.{◌+ℤ◌}
use Rattle.numbers.specs.Words.{ℕ, true, false, List, ℤ}
use Rattle.header.specs.Header.{segments_on, segments_absolute, entry, present_at_of}

-- the frame's entry `base`, the segment's own, or their sum
unfoldable pub segmented_of : List ℤ → ℕ → ℕ → ℤ
segmented_of h base own =
    elim (present_at_of h segments_on) [
      | false ↦ entry h base
      | true ↦ elim (present_at_of h segments_absolute) [
        | true ↦ entry h own
        | false ↦ entry h base +ℤ entry h own
      ]
    ]
