-- The laws of a segment's own value: one for each way.
use Rattle.std.specs.Prelude.{◌≡◌, ◌+ℤ◌}
use Rattle.numbers.specs.Words.{ℕ, true, false, List, ℤ}
use Rattle.header.specs.Header.{segments_on, segments_absolute, entry, present_at_of}
use Rattle.header.specs.Own.{segmented_of}

module _ (h : List ℤ) (base own : ℕ) where
  pub segmented_base : present_at_of h segments_on ≡ false → segmented_of h base own ≡ entry h base
  unfolding segmented_of
  segmented_base e = rw (e, segmented_of)

  pub segmented_own : present_at_of h segments_on ≡ true → present_at_of h segments_absolute ≡ true → segmented_of h base own ≡ entry h own
  unfolding segmented_of
  segmented_own e f = rw (e, f, segmented_of)

  pub segmented_sum : present_at_of h segments_on ≡ true → present_at_of h segments_absolute ≡ false → segmented_of h base own ≡ entry h base +ℤ entry h own
  unfolding segmented_of
  segmented_sum e f = rw (e, f, segmented_of)
