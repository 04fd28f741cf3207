-- A frame that is taken passes the picture call's checks, 1 the sizes, 2 the count, 3 the entries, 5 the partitions and the reader; any
-- other is refused.
use Rattle.std.specs.Prelude.{◌+◌, ◌-◌, ◌*◌, ◌≤◌, ◌<◌, ◌≡◌, ◌&&◌, ◌⊎◌}
use Rattle.numbers.specs.Words.{ℕ, zero, suc, arith, refl, ◌∙◌, ap, Bool, true, false, not, inl, inr, ⊎_elim, eqb, leb, lit≤, lt_or, never, both_left, both_right, eq-eqb, eqb-true, le-leb, leb-true, lt-leb, List, length, get_or, length_build, get_or_build, all_below_lem, ℤ}
use Rattle.reader.specs.declared.boolean.Reader.{Reader}
use Rattle.reader.specs.Reading.{Given, given, missing, first_reader, run}
use Rattle.reader.specs.ReadingLaws.{Bytes, first_valid, ReadTo, run_valid}
use Rattle.tile.specs.Tile.{no_span, span_at_of, contents_of, Side, Counted, Inside}
use Rattle.tile.specs.PartitionsLaws.{part_bytes, span_at_lem}
use Rattle.frame.specs.declared.fields.Header.{Header}
use Rattle.frame.specs.Fine.{FineTaken}
use Rattle.frame.specs.Header.{header}
use Rattle.frame.specs.HeaderLaws.{header_within}
use Rattle.frame.specs.Tag.{first_size_of, width_of, height_of, rounded_of, start_code_of, version_of, inter_of, tag_fine}
use Rattle.frame.specs.Places.{partition_count, partition_start, length_of, partition_span, token_spans, tokens_inside_of}
use Rattle.frame.specs.PlacesLaws.{span_is, place_apart, place_after}
use Rattle.frame.specs.Entries.{entries}
use Rattle.frame.specs.EntriesLaws.{entries_length, entries_each}
use Rattle.frame.specs.Take.{Taken, nothing_taken, first_of, sizes_place, tile_of_of, whole_of, partitions_placed, coded_of, given_header, taken_of, into_of}
use Rattle.frame.specs.TakeLaws.{take_tag, take_first, take_short, take_coded}
use Rattle.frame.specs.Passes.{Covers, Passes, InOrder, FrameRefused, FrameKept}

-- ---- every way through the call: a refusal, or the whole with what was tried on the way
abbrev pub Number : ℕ → Type 0
Number n = (n ≡ 12) ⊎ (n ≡ 13) ⊎ (n ≡ 14)

pub no_refusal : {n : ℕ} {C : Type 0} → Number n → n ≡ 0 → C
no_refusal k e = absurd (⊎_elim (λ p. omega (arith, p, e)) (λ q. ⊎_elim (λ p. omega (arith, p, e)) (λ p. omega (arith, p, e)) q) k)

pub data Way (b : List ℕ) : Taken → Type 0 where
  refused : (n : ℕ) → Number n → Way b (nothing_taken n)
  whole : (h : Header) (r : Reader) → tag_fine b ≡ true → sizes_place b ≤ length b → 2 ≤ first_size_of b → given_header b ≡ given h r → tokens_inside_of b (sizes_place b) (partition_count h.partitions) ≡ true → Way b (whole_of b h r)

module _ (b : List ℕ) where
  no_way : (n : ℕ) {t : Taken} → Number n → nothing_taken n ≡ t → Way b t
  no_way n k e = let w : Way b (nothing_taken n) = refused n k in rw e at w

  pub way : Way b (taken_of b)
  unfolding partitions_placed given_header
  way = tag (tag_fine b) refl
    where
      placed : (h : Header) (r : Reader) → tag_fine b ≡ true → sizes_place b ≤ length b → 2 ≤ first_size_of b → given_header b ≡ given h r → (v : Bool) → tokens_inside_of b (sizes_place b) (partition_count h.partitions) ≡ v → Way b (partitions_placed b h r)
      placed h r e l k g true i = rw (i, partitions_placed) (whole h r e l k g i)
      placed h r e l k g false i = rw (i, partitions_placed) (refused 13 (inr (inl refl)))

      coded : tag_fine b ≡ true → sizes_place b ≤ length b → 2 ≤ first_size_of b → (x : Given Header) → given_header b ≡ x → Way b (coded_of b x)
      coded e l k (given h r) g = placed h r e l k g (tokens_inside_of b (sizes_place b) (partition_count h.partitions)) refl
      coded e l k missing g = refused 14 (inr (inr refl))

      inside : tag_fine b ≡ true → sizes_place b ≤ length b → Way b (taken_of b)
      inside e l =
          let f = le-leb (sizes_place b) (length b) l in
          ⊎_elim
          (λ k. no_way 14 (inr (inr refl)) (take_short b e refl f k))
          (λ k. rw (take_coded b e refl f k refl) at (coded e l k (given_header b) refl))
          (lt_or (first_size_of b) 2)

      tag : (v : Bool) → tag_fine b ≡ v → Way b (taken_of b)
      tag false e = no_way 12 (inl refl) (take_tag b e)
      tag true e = ⊎_elim (λ k. no_way 13 (inr (inl refl)) (take_first b e refl (lt-leb (sizes_place b) (length b) k))) (λ k. inside e k) (lt_or (length b) (sizes_place b))

-- ---- what was tried says of the whole
rounded_side : (n : ℕ) → 1 ≤ n → n < 16384 → Side (rounded_of n)
rounded_side n h l = record { least = omega arith; most = omega arith; whole = omega arith }

rounded_covers : (n : ℕ) → Covers n (rounded_of n)
rounded_covers n = record { whole = omega arith; tight = omega arith }

module _ (b : List ℕ) (e : tag_fine b ≡ true) where
  tag_width : 1 ≤ width_of b
  unfolding tag_fine
  tag_width = leb-true 1 (width_of b) (both_right (leb 10 (length b) && eqb (inter_of b) 0 && start_code_of b && leb (version_of b) 3) _ (both_left _ (leb 1 (height_of b)) e))

  tag_height : 1 ≤ height_of b
  unfolding tag_fine
  tag_height = leb-true 1 (height_of b) (both_right (leb 10 (length b) && eqb (inter_of b) 0 && start_code_of b && leb (version_of b) 3 && leb 1 (width_of b)) _ e)

counted : (p : ℕ) → p < 4 → Counted (partition_count p)
counted zero h = record { least = lit≤ tt; most = lit≤ tt }
counted (suc zero) h = record { least = lit≤ tt; most = lit≤ tt }
counted (suc (suc zero)) h = record { least = lit≤ tt; most = lit≤ tt }
counted (suc (suc (suc zero))) h = record { least = lit≤ tt; most = lit≤ tt }
counted (suc (suc (suc (suc n)))) h = absurd (omega arith)

module _ (b : List ℕ) (table count : ℕ) where
  token_at : (i : ℕ) → i < 8 → i < count → get_or (token_spans b table count) i no_span ≡ record { start = partition_start b table count i; len = length_of b table count i (partition_start b table count i) }
  unfolding token_spans
  token_at i m l = get_or_build 8 (λ i. partition_span b table count i (partition_start b table count i)) i no_span m ∙ span_is b table count i _ l

  token_inside : tokens_inside_of b table count ≡ true → (i : ℕ) → i < 8 → i < count → Inside (length b) (get_or (token_spans b table count) i no_span)
  unfolding tokens_inside_of
  token_inside h i m l =
      rw (token_at i m l)
      (record {
        fits = leb-true (partition_start b table count i + length_of b table count i (partition_start b table count i)) (length b)
            (all_below_lem (λ i. leb (partition_start b table count i + length_of b table count i (partition_start b table count i)) (length b)) count (both_right (leb (table + 3 * (count - 1)) (length b)) _ h) i l);
      })

whole_passes : (b : List ℕ) → Bytes b → (h : Header) (r : Reader) → tag_fine b ≡ true → sizes_place b ≤ length b → given_header b ≡ given h r → tokens_inside_of b (sizes_place b) (partition_count h.partitions) ≡ true → Passes b (whole_of b h r)
unfolding whole_of given_header
whole_passes b y h r e l g i =
    let s : List ℕ = contents_of b (first_of b) in
    let z : Bytes s = part_bytes b (first_of b) y in
    let d : ReadTo FineTaken s (first_reader s) h r = run_valid header_within z (first_valid s z) g in
    let n : ℕ = partition_count h.partitions in
    let c : Counted n = counted h.partitions d.value.partitions in
    record {
      sides = record { width = rounded_side (width_of b) (tag_width b e) (omega arith); height = rounded_side (height_of b) (tag_height b e) (omega arith) };
      counted = c;
      each = entries_each h d.value;
      long = entries_length h;
      cut = record {
        first = record { fits = l };
        tokens = λ j q. let o : j < 8 = omega (arith, c.most) in rw (span_at_lem (tile_of_of b h r) j o) (token_inside b (sizes_place b) n i j o q);
        reader = d.valid;
      };
      width = rounded_covers (width_of b);
      height = rounded_covers (height_of b);
    }

-- ---- the partitions of the whole follow one another
pub place_is : (b : List ℕ) (h : Header) (r : Reader) (i : ℕ) → i < 8 → i < partition_count h.partitions
    → let n = partition_count h.partitions in span_at_of (tile_of_of b h r) i ≡ record { start = partition_start b (sizes_place b) n i; len = length_of b (sizes_place b) n i (partition_start b (sizes_place b) n i) }
place_is b h r i m l = span_at_lem (tile_of_of b h r) i m ∙ token_at b (sizes_place b) (partition_count h.partitions) i m l

whole_ordered : (b : List ℕ) (h : Header) (r : Reader) → Counted (partition_count h.partitions) → tokens_inside_of b (sizes_place b) (partition_count h.partitions) ≡ true → InOrder (tile_of_of b h r)
whole_ordered b h r c inside =
    let n = partition_count h.partitions in
    let at : (i : ℕ) → i < n → span_at_of (tile_of_of b h r) i ≡ record { start = partition_start b (sizes_place b) n i; len = length_of b (sizes_place b) n i (partition_start b (sizes_place b) n i) } =
    λ i l. place_is b h r i (omega (arith, c.most)) l in
    record {
      first = rw (at 0 c.least) (omega (arith, place_after b (sizes_place b) n 0));
      tokens = λ i k l m. rw (at i (omega arith), at k m) (place_apart b (sizes_place b) n i k l m);
    }

-- ---- THE LAWS: what is taken of any bytes passes; what is not taken is refused
pub taken_is_fine : (b : List ℕ) → Bytes b → (taken_of b).answer.number ≡ 0 → Passes b (taken_of b)
unfolding nothing_taken
taken_is_fine b y z = go (way b) z
  where
    go : {t : Taken} → Way b t → t.answer.number ≡ 0 → Passes b t
    go (refused n k) e = no_refusal k e
    go (whole h r g l k f i) e = whole_passes b y h r g l f i

-- its coded header was read, to the tile's reader
pub record TakenRead (b : List ℕ) (t : Taken) : Type 0 where
  pub coded : Header
  pub gives : run header (contents_of b t.answer.tile.first) (first_reader (contents_of b t.answer.tile.first)) ≡ given coded t.answer.tile.reader
  pub long : 10 ≤ length b
  pub listed : t.header ≡ entries coded
  pub simple : t.answer.simple ≡ not (eqb coded.filter.kind 0)

pub taken_read : (b : List ℕ) → (taken_of b).answer.number ≡ 0 → TakenRead b (taken_of b)
unfolding nothing_taken whole_of given_header
taken_read b z = go (way b) z
  where
    go : {t : Taken} → Way b t → t.answer.number ≡ 0 → TakenRead b t
    go (refused n k) e = no_refusal k e
    go (whole h r g l k f i) e = record { coded = h; gives = f; long = omega arith; listed = refl; simple = refl }

pub taken_in_order : (b : List ℕ) → Bytes b → (taken_of b).answer.number ≡ 0 → InOrder (taken_of b).answer.tile
unfolding nothing_taken whole_of
taken_in_order b y z = go (way b) z (taken_is_fine b y z).counted
  where
    go : {t : Taken} → Way b t → t.answer.number ≡ 0 → Counted t.answer.tile.count → InOrder t.answer.tile
    go (refused n k) e c = no_refusal k e
    go (whole h r g l k f i) e c = whole_ordered b h r c i

pub taken_or_refused : (b : List ℕ) → ((taken_of b).answer.number ≡ 0) ⊎ FrameRefused (taken_of b)
unfolding nothing_taken whole_of
taken_or_refused b = go (way b)
  where
    go : {t : Taken} → Way b t → (t.answer.number ≡ 0) ⊎ FrameRefused t
    go (refused n k) = inr (record { number = k; zeros = refl })
    go (whole h r g l k f i) = inl refl

-- the same of the call that is lent the entries
pub into_or_kept : (b : List ℕ) (old : List ℤ) → (((taken_of b).answer.number ≡ 0) × (into_of b old ≡ taken_of b)) ⊎ FrameKept old (into_of b old)
unfolding into_of nothing_taken
into_or_kept b old = long (eqb (length old) 1096) refl
  where
    taken : eqb (length old) 1096 ≡ true → (v : Bool) → eqb (taken_of b).answer.number 0 ≡ v → ((taken_of b).answer.number ≡ 0) ⊎ FrameRefused (taken_of b) → (((taken_of b).answer.number ≡ 0) × (into_of b old ≡ taken_of b)) ⊎ FrameKept old (into_of b old)
    taken e true f w = inl (eqb-true _ _ f, rw (e, f, into_of))
    taken e false f (inl z) = absurd (never (eq-eqb _ _ z) f)
    taken e false f (inr r) = inr (rw (e, f, into_of) (record { number = inr r.number; zeros = ap (λ (t : Taken). t.answer) r.zeros; unchanged = refl }))

    long : (v : Bool) → eqb (length old) 1096 ≡ v → (((taken_of b).answer.number ≡ 0) × (into_of b old ≡ taken_of b)) ⊎ FrameKept old (into_of b old)
    long true e = taken e (eqb (taken_of b).answer.number 0) refl (taken_or_refused b)
    long false e = inr (rw (e, into_of) (record { number = inl refl; zeros = refl; unchanged = refl }))

-- taken or not, there are eight spans
pub tokens_eight : (b : List ℕ) → length (taken_of b).answer.tile.tokens ≡ 8
unfolding nothing_taken whole_of token_spans
tokens_eight b = go (way b)
  where
    go : {t : Taken} → Way b t → length t.answer.tile.tokens ≡ 8
    go (refused n k) = refl
    go (whole h r g l k f i) = length_build 8 (λ i. partition_span b (sizes_place b) (partition_count h.partitions) i (partition_start b (sizes_place b) (partition_count h.partitions) i))

-- and 1096 entries
pub entries_whole : (b : List ℕ) → length (taken_of b).header ≡ 1096
unfolding nothing_taken whole_of
entries_whole b = go (way b)
  where
    go : {t : Taken} → Way b t → length t.header ≡ 1096
    go (refused n k) = refl
    go (whole h r g l k f i) = entries_length h
