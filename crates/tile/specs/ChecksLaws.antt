-- What an answer of the checks of a tile says: each test and its facts, both ways; and each test as the code makes it.
use Rattle.std.specs.Prelude.{◌+◌, ◌-◌, ◌%◌, ◌≤◌, ◌<◌, ◌≡◌, ◌&&◌, ◌⊎◌}
use Rattle.numbers.specs.Words.{ℕ, zero, suc, arith, refl, sym, Bool, true, false, ⊎_elim, leb, lt_or, never, not_so, both_left, both_right, both_true, both_false, eq-eqb, eqb-true, le-leb, leb-true, lt-leb, List, length, all_below, all_below_lem}
use Rattle.reader.specs.Reading.{valid_of}
use Rattle.reader.specs.ReadingLaws.{valid_test, valid_fact}
use Rattle.tile.specs.Tile.{Span, Tile, contents_of, no_span, span_at_of, side_of, sides_of, Side, Sides, count_of, Counted, inside_of, tokens_fine, partitions_of, Inside, Cut}
use Rattle.tile.specs.PartitionsLaws.{span_past}

-- ---- 1
pub side_fact : (n : ℕ) → side_of n ≡ true → Side n
unfolding side_of
side_fact n e =
    let b = both_left (leb 16 n && leb n 16384) _ e in
    let m : n % 16 ≡ 0 = eqb-true _ _ (both_right (leb 16 n && leb n 16384) _ e) in
    record { least = leb-true 16 n (both_left _ _ b); most = leb-true n 16384 (both_right (leb 16 n) _ b); whole = omega arith }

pub side_test : (n : ℕ) → Side n → side_of n ≡ true
unfolding side_of
side_test n s =
    let m : n % 16 ≡ 0 = omega (arith, s.whole) in
    both_true (both_true (le-leb 16 n s.least) (le-leb n 16384 s.most)) (eq-eqb _ _ m)

module _ (w h : ℕ) where
  pub sides_fact : sides_of w h ≡ true → Sides w h
  unfolding sides_of
  sides_fact e = record { width = side_fact w (both_left _ _ e); height = side_fact h (both_right (side_of w) _ e) }

  pub sides_test : Sides w h → sides_of w h ≡ true
  unfolding sides_of
  sides_test s = both_true (side_test w s.width) (side_test h s.height)

-- ---- 2
module _ (n : ℕ) where
  pub count_fact : count_of n ≡ true → Counted n
  unfolding count_of
  count_fact e = record { least = leb-true 1 n (both_left _ _ e); most = leb-true n 8 (both_right (leb 1 n) _ e) }

  pub count_test : Counted n → count_of n ≡ true
  unfolding count_of
  count_test s = both_true (le-leb _ _ s.least) (le-leb _ _ s.most)

-- ---- 5
module _ (n : ℕ) (s : Span) where
  inside_fact : inside_of n s ≡ true → Inside n s
  unfolding inside_of
  inside_fact e = record { fits = leb-true _ _ e }

  inside_test : Inside n s → inside_of n s ≡ true
  unfolding inside_of
  inside_test p = le-leb _ _ p.fits

  -- as the code tries it: a start past the end, else what is left after the start
  pub inside_past : n < s.start → false ≡ inside_of n s
  inside_past h = not_so (inside_of n s) (λ e. omega (arith, (inside_fact e).fits))

  pub inside_rest : s.start ≤ n → leb s.len (n - s.start) ≡ inside_of n s
  unfolding inside_of
  inside_rest h =
      ⊎_elim
      (λ l. rw (lt-leb s.len (n - s.start) l, lt-leb (s.start + s.len) n (omega arith)))
      (λ l. rw (le-leb s.len (n - s.start) l, le-leb (s.start + s.len) n (omega arith)))
      (lt_or (n - s.start) s.len)

-- the token partitions, as a loop tries them: one outside; or all inside, where past the eighth there is none
module _ (n : ℕ) (t : Tile) where
  tokens_fact : tokens_fine n t ≡ true → (i : ℕ) → i < t.count → inside_of n (span_at_of t i) ≡ true
  unfolding tokens_fine
  tokens_fact e i l = all_below_lem (λ i. inside_of n (span_at_of t i)) t.count e i l

  upto : (c : ℕ) → ((i : ℕ) → i < c → inside_of n (span_at_of t i) ≡ true) → all_below c (λ i. inside_of n (span_at_of t i)) ≡ true
  upto zero f = refl
  upto (suc c) f = both_true (f c (omega arith)) (upto c (λ i l. f i (omega arith)))

  tokens_test : ((i : ℕ) → i < t.count → inside_of n (span_at_of t i) ≡ true) → tokens_fine n t ≡ true
  unfolding tokens_fine
  tokens_test f = upto t.count f

  pub tokens_out : (i : ℕ) → i < t.count → inside_of n (span_at_of t i) ≡ false → false ≡ tokens_fine n t
  tokens_out i l f = not_so (tokens_fine n t) (λ e. never (tokens_fact e i l) f)

  past : (i : ℕ) → 8 ≤ i → inside_of n (span_at_of t i) ≡ true
  past i h = rw (span_past t i h) (inside_test n no_span (record { fits = omega arith }))

  pub tokens_all : (i : ℕ) → ((k : ℕ) → k < i → inside_of n (span_at_of t k) ≡ true) → (i ≡ t.count) ⊎ (i ≡ 8) → true ≡ tokens_fine n t
  tokens_all i f g = sym (tokens_test (λ k l. ⊎_elim (λ h. f k h) (λ h. past k (⊎_elim (λ q. absurd (omega arith)) (λ q. omega arith) g)) (lt_or k i)))

-- all of them, as the code tries them
module _ (bytes : List ℕ) (t : Tile) where
  pub partitions_first : inside_of (length bytes) t.first ≡ false → false ≡ partitions_of bytes t
  unfolding partitions_of
  partitions_first e = rw (e, partitions_of)

  pub partitions_tokens : tokens_fine (length bytes) t ≡ false → false ≡ partitions_of bytes t
  unfolding partitions_of
  partitions_tokens e = rw (both_false (inside_of (length bytes) t.first) e, partitions_of)

  pub partitions_reader : inside_of (length bytes) t.first ≡ true → tokens_fine (length bytes) t ≡ true → valid_of (contents_of bytes t.first) t.reader ≡ partitions_of bytes t
  unfolding partitions_of
  partitions_reader e f = rw (e, f, partitions_of)

  -- and what they say
  pub partitions_fact : partitions_of bytes t ≡ true → Cut bytes t
  unfolding partitions_of
  partitions_fact e =
      let n : ℕ = length bytes in
      let d : Bool = inside_of n t.first in
      let k : Bool = tokens_fine n t in
      let b = both_left (d && k) _ e in
      record {
        first = inside_fact _ _ (both_left d k b);
        tokens = λ i l. inside_fact _ _ (tokens_fact n t (both_right d k b) i l);
        reader = valid_fact _ _ (both_right (d && k) _ e);
      }

  pub partitions_test : Cut bytes t → partitions_of bytes t ≡ true
  unfolding partitions_of
  partitions_test c =
      both_true
      (both_true (inside_test _ _ c.first) (tokens_test _ t (λ i l. inside_test _ _ (c.tokens i l))))
      (valid_test _ _ c.reader)
