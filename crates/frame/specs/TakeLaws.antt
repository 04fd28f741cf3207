-- The call, as the code makes it: one test after the other.
use Rattle.std.specs.Prelude.{◌+◌, ◌≤◌, ◌<◌, ◌≡◌}
use Rattle.numbers.specs.Words.{ℕ, arith, sym, ◌∙◌, ap, true, false, not, eqb, leb, eq-eqb, le-ltb, lt-ltb, ne_eqb, List, length, ℤ}
use Rattle.reader.specs.declared.boolean.Reader.{Reader}
use Rattle.reader.specs.Reading.{given, first_reader, valid_of, run}
use Rattle.reader.specs.ReadingLaws.{Bytes, first_valid, valid_test, valid_fact, run_valid}
use Rattle.tile.specs.declared.Span.{Span}
use Rattle.tile.specs.Tile.{contents_of}
use Rattle.frame.specs.Header.{Header, header}
use Rattle.frame.specs.Tag.{three_at, first_size_of, width_of, height_of, rounded_of, tag_fine}
use Rattle.frame.specs.Places.{partition_count, partition_start, token_spans}
use Rattle.frame.specs.Fine.{FineTaken}
use Rattle.frame.specs.HeaderLaws.{header_within}
use Rattle.frame.specs.Entries.{entries}
use Rattle.reader.specs.Reads.{Reads}
use Rattle.frame.specs.PlacesLaws.{inside_all, inside_not}
use Rattle.frame.specs.Take.{Answer, Taken, refused_answer, nothing_taken, first_of, sizes_place, whole_of, partitions_placed, coded_of, given_header, taken_of, stored_of, into_of}

-- nineteen bits
pub first_small : (b : List ℕ) → Bytes b → first_size_of b < 524288
unfolding three_at
first_small b y = omega (arith, y 0, y (0 + 1), y (0 + 2))

module _ (b : List ℕ) where
  pub take_tag : tag_fine b ≡ false → nothing_taken 12 ≡ taken_of b
  unfolding taken_of
  take_tag e = rw (e, taken_of)

  -- after it the code has the size of the first partition, and has tried whether that lies inside
  module _ (e : tag_fine b ≡ true) {size : ℕ} (z : size ≡ first_size_of b) where
    pub take_first : leb (10 + size) (length b) ≡ false → nothing_taken 13 ≡ taken_of b
    unfolding taken_of
    take_first h = let f : leb (sizes_place b) (length b) ≡ false = rw z at h in rw (e, f, taken_of)

    module _ (h : leb (10 + size) (length b) ≡ true) where
      inside : leb (sizes_place b) (length b) ≡ true
      inside = rw z at h

      pub take_short : size < 2 → nothing_taken 14 ≡ taken_of b
      unfolding taken_of
      take_short l = rw (e, inside, lt-ltb (first_size_of b) 2 (rw z at l), taken_of)

      pub take_coded : 2 ≤ size → {s : List ℕ} → s ≡ contents_of b (record { start = 10; len = size }) → coded_of b (run header s (first_reader s)) ≡ taken_of b
      unfolding taken_of given_header
      take_coded l {s} f =
          let g : s ≡ contents_of b (first_of b) = rw z at f in
          let k : coded_of b (given_header b) ≡ taken_of b = rw (e, inside, le-ltb (first_size_of b) 2 (rw z at l), taken_of) in
          ap (λ (s : List ℕ). coded_of b (run header s (first_reader s))) g ∙ k

  -- the token partitions
  module _ (h : Header) (r : Reader) (l : 1 ≤ partition_count h.partitions) (m : partition_count h.partitions ≤ 8) where
    pub placed_not : length b < partition_start b (sizes_place b) (partition_count h.partitions) 8 → nothing_taken 13 ≡ partitions_placed b h r
    unfolding partitions_placed
    placed_not g = rw (inside_not b (sizes_place b) (partition_count h.partitions) m l g, partitions_placed)

    pub placed_all : partition_start b (sizes_place b) (partition_count h.partitions) 8 ≤ length b → whole_of b h r ≡ partitions_placed b h r
    unfolding partitions_placed
    placed_all g = rw (inside_all b (sizes_place b) (partition_count h.partitions) m g, partitions_placed)

  -- the same of what the code has: the size, the count and the last start
  module _ (h : Header) (r : Reader) {size n last : ℕ} (e : size ≡ first_size_of b) (f : n ≡ partition_count h.partitions) (l : 1 ≤ n) (m : n ≤ 8) (g : last ≡ partition_start b (10 + size) n 8) where
    pub refused_places : length b < last → nothing_taken 13 ≡ partitions_placed b h r
    refused_places k = placed_not h r (rw f at l) (rw f at m) (rw (g, e, f) at k)

    pub taken_whole : {w t a d : ℕ} {tokens : List Span} {es : List ℤ} → a ≡ width_of b → d ≡ height_of b → w ≡ rounded_of a → t ≡ rounded_of d → tokens ≡ token_spans b (10 + size) n → es ≡ entries h → last ≤ length b
        → record {
          answer = record {
            number = 0;
            tile = record { first = record { start = 10; len = size }; tokens = tokens; reader = r; count = n; width = w; height = t };
            shown = record { width = a; height = d };
            simple = not (eqb h.filter.kind 0);
          };
          header = es;
        } ≡ partitions_placed b h r
    unfolding whole_of
    taken_whole pa pd pw pt ps pe k = rw (pw, pt, pa, pd, ps, pe, f, e) (placed_all h r (rw f at l) (rw f at m) (rw (g, e, f) at k))

-- a list stored over another
pub stored_not : (old new : List ℤ) → (length old ≡ length new → ⊥) → old ≡ stored_of old new
unfolding stored_of
stored_not old new h = rw (ne_eqb _ _ h, stored_of)

pub stored_is : (old new : List ℤ) → length old ≡ length new → stored_of old new ≡ new
unfolding stored_of
stored_is old new h = rw (eq-eqb _ _ h, stored_of)

-- with the entries lent
module _ (b : List ℕ) (old : List ℤ) where
  pub into_length : {a : Answer} → a ≡ refused_answer 9 → (length old ≡ 1096 → ⊥) → record { answer = a; header = old } ≡ into_of b old
  unfolding into_of
  into_length e h = rw (e, ne_eqb _ _ h, into_of)

  into_taken : {t : Taken} {l : List ℤ} → t ≡ taken_of b → l ≡ t.header → length old ≡ 1096 → t.answer.number ≡ 0 → record { answer = t.answer; header = l } ≡ into_of b old
  unfolding into_of
  into_taken {t} e g h k = go e g (rw e at k)
    where
      go : {t : Taken} {l : List ℤ} → t ≡ taken_of b → l ≡ t.header → (taken_of b).answer.number ≡ 0 → record { answer = t.answer; header = l } ≡ into_of b old
      go e g k = rw (g, e, eq-eqb _ _ h, eq-eqb _ _ k, into_of)

  pub into_stored : {t : Taken} {l : List ℤ} → t ≡ taken_of b → l ≡ stored_of old t.header → length old ≡ 1096 → length t.header ≡ 1096 → t.answer.number ≡ 0 → record { answer = t.answer; header = l } ≡ into_of b old
  into_stored e g h n k = into_taken e (g ∙ stored_is old _ (h ∙ sym n)) h k

  pub into_refused : {t : Taken} → t ≡ taken_of b → length old ≡ 1096 → (t.answer.number ≡ 0 → ⊥) → record { answer = t.answer; header = old } ≡ into_of b old
  unfolding into_of
  into_refused {t} e h k = rw (e, eq-eqb _ _ h, ne_eqb _ _ (rw e at k), into_of)

-- the coded header, from what the code read
module _ (b s : List ℕ) (y : Bytes s) {r q : Reader} {h : Header} (e : r ≡ first_reader s) (x : Reads header s r h q) where
  start_valid : valid_of s r ≡ true
  start_valid = rw e (valid_test s (first_reader s) (first_valid s y))

  pub read_missing : valid_of s q ≡ false → nothing_taken 14 ≡ coded_of b (run header s (first_reader s))
  read_missing f = sym (ap (coded_of b) (ap (run header s) (sym e) ∙ x.stopped start_valid f))

  module _ (f : valid_of s q ≡ true) where
    given_is : run header s r ≡ given h q
    given_is = x.went start_valid f

    pub read_given : partitions_placed b h q ≡ coded_of b (run header s (first_reader s))
    read_given = sym (ap (coded_of b) (ap (run header s) (sym e) ∙ given_is))

    pub read_fine : FineTaken h
    read_fine = (run_valid header_within y (valid_fact s r start_valid) given_is).value
