-- The places of the token partitions: all lie inside exactly where the last one's start does.
use Rattle.std.specs.Prelude.{◌+◌, ◌-◌, ◌*◌, ◌≤◌, ◌<◌, ◌≡◌}
use Rattle.numbers.specs.Words.{ℕ, zero, suc, add-suc, add-zero, zero-add, arith, refl, sym, ◌∙◌, ap, true, false, ⊎_elim, leb, lt_or, not_so, both_right, both_true, le-leb, le-ltb, leb-true, lt-ltb, List, length, all_below, all_below_lem}
use Rattle.frame.specs.Tag.{three_at}
use Rattle.tile.specs.Tile.{no_span}
use Rattle.frame.specs.Places.{partition_size, partition_start, length_of, partition_span, tokens_inside_of}

module _ (b : List ℕ) (table count : ℕ) where
  sized_none : (i : ℕ) → count ≤ i + 1 → partition_size b table count i ≡ 0
  unfolding partition_size
  sized_none i h = rw (le-ltb (i + 1) count h, partition_size)

  -- each but the last is as long as the table says
  length_sized : (i at : ℕ) → i + 1 < count → length_of b table count i at ≡ partition_size b table count i
  unfolding partition_size length_of
  length_sized i at h = rw (lt-ltb (i + 1) count h, partition_size, length_of)

  length_last : (i at : ℕ) → count ≤ i + 1 → length_of b table count i at ≡ length b - at
  unfolding length_of
  length_last i at g = rw (le-ltb (i + 1) count g, length_of)

  -- a partition as the code cuts it: none past the count, else one of those two lengths
  module _ (i at : ℕ) where
    pub span_none : count ≤ i → no_span ≡ partition_span b table count i at
    unfolding partition_span
    span_none h = rw (le-ltb i count h, partition_span)

    pub span_is : i < count → partition_span b table count i at ≡ record { start = at; len = length_of b table count i at }
    unfolding partition_span
    span_is h = rw (lt-ltb i count h, partition_span)

    pub span_sized : i + 1 < count → {n : ℕ} → n ≡ three_at b (table + 3 * i) → record { start = at; len = n } ≡ partition_span b table count i at
    unfolding length_of
    span_sized h e = rw (e, ← length_of_sized) (sym (span_is (omega arith)))
      where
        length_of_sized : length_of b table count i at ≡ three_at b (table + 3 * i)
        length_of_sized = rw (lt-ltb (i + 1) count h, length_of)

    pub span_last : i < count → count ≤ i + 1 → {n : ℕ} → n ≡ length b - at → record { start = at; len = n } ≡ partition_span b table count i at
    span_last h g e = rw (e, ← length_last i at g) (sym (span_is h))

  place_next : (i : ℕ) → partition_start b table count (suc i) ≡ partition_start b table count i + partition_size b table count i
  unfolding partition_start
  place_next i = refl

  -- no place is before an earlier one
  place_up : (i k : ℕ) → partition_start b table count i ≤ partition_start b table count (i + k)
  place_up i zero = rw (add-zero i) (omega arith)
  place_up i (suc k) = rw (add-suc i k) (omega (arith, place_up i k, place_next (i + k)))

  -- each partition ends before a later one starts
  pub place_apart : (i k : ℕ) → i < k → k < count → partition_start b table count i + length_of b table count i (partition_start b table count i) ≤ partition_start b table count k
  place_apart i k l m =
      let e : suc i + (k - suc i) ≡ k = omega arith in
      let u : partition_start b table count (suc i) ≤ partition_start b table count k = rw e at (place_up (suc i) (k - suc i)) in
      rw (length_sized i (partition_start b table count i) (omega arith)) (omega (arith, place_next i, u))

  pub place_after : (i : ℕ) → table + 3 * (count - 1) ≤ partition_start b table count i
  unfolding partition_start
  place_after i = rw (zero-add i) at (place_up 0 i)

  -- from the last on they stay
  pub place_stays : (i k : ℕ) → count ≤ i + 1 → partition_start b table count (i + k) ≡ partition_start b table count i
  place_stays i zero h = ap (partition_start b table count) (add-zero i)
  place_stays i (suc k) h = ap (partition_start b table count) (add-suc i k) ∙ omega (arith, place_stays i k h, place_next (i + k), sized_none (i + k) (omega arith))

  module _ (h : count ≤ 8) where
    to_eight : (i : ℕ) → i ≤ 8 → partition_start b table count i ≤ partition_start b table count 8
    to_eight i l =
        let e : i + (8 - i) ≡ 8 = omega arith in
        rw e at (place_up i (8 - i))

    module _ (g : partition_start b table count 8 ≤ length b) where
      one_inside : (i : ℕ) → i < count → leb (partition_start b table count i + length_of b table count i (partition_start b table count i)) (length b) ≡ true
      one_inside i l = le-leb (partition_start b table count i + length_of b table count i (partition_start b table count i)) (length b) (⊎_elim
          (λ k. rw (length_sized i (partition_start b table count i) k) (omega (arith, place_next i, to_eight (suc i) (omega arith))))
          (λ k. rw (length_last i (partition_start b table count i) k) (omega (arith, to_eight i (omega arith))))
          (lt_or (i + 1) count))

      below : (n : ℕ) → n ≤ count → all_below n (λ i. leb (partition_start b table count i + length_of b table count i (partition_start b table count i)) (length b)) ≡ true
      below zero l = refl
      below (suc n) l = both_true (one_inside n (omega arith)) (below n (omega arith))

      pub inside_all : tokens_inside_of b table count ≡ true
      unfolding tokens_inside_of partition_start
      inside_all = both_true (le-leb (table + 3 * (count - 1)) (length b) (omega (arith, to_eight 0 (omega arith)))) (below count (omega arith))

    pub inside_not : 1 ≤ count → length b < partition_start b table count 8 → tokens_inside_of b table count ≡ false
    unfolding tokens_inside_of
    inside_not k g = sym (not_so (tokens_inside_of b table count) (λ e.
        let last : ℕ = count - 1 in
        let t = all_below_lem (λ i. leb (partition_start b table count i + length_of b table count i (partition_start b table count i)) (length b)) count (both_right (leb (table + 3 * (count - 1)) (length b)) _ e) last (omega arith) in
        let u = leb-true (partition_start b table count last + length_of b table count last (partition_start b table count last)) (length b) t in
        let v : last + (8 - last) ≡ 8 = omega arith in
        let w : partition_start b table count 8 ≡ partition_start b table count last = rw v at (place_stays last (8 - last) (omega arith)) in
        omega (arith, u, w)))
