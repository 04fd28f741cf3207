-- What is taken of a frame hangs on its length and on the bytes before its token partitions alone; of a frame that is taken, all but where the token
-- partitions lie on the bytes up to the end of the first partition.
use Rattle.std.specs.Prelude.{◌+◌, ◌-◌, ◌*◌, ◌/◌, ◌%◌, ◌≤◌, ◌<◌, ◌≡◌, ◌&&◌}
use Rattle.numbers.specs.Words.{ℕ, zero, suc, arith, pow_pos, refl, sym, ◌∙◌, ap, ap₂, true, false, not, ⊎_elim, eqb, ltb, leb, lit<, lt_or, le-leb, le-ltb, lt-ltb, List, [], length, get_or, build_same, all_below}
use Rattle.reader.specs.declared.boolean.Reader.{Reader}
use Rattle.reader.specs.Reading.{Given, given, missing, first_reader, run}
use Rattle.tile.specs.declared.Span.{Span}
use Rattle.tile.specs.Tile.{no_span, span_at_of}
use Rattle.tile.specs.PartitionsLaws.{part_same}
use Rattle.frame.specs.Header.{Header, header}
use Rattle.frame.specs.Tag.{two_at, three_at, tag_of, first_size_of, rounded_of, tag_fine}
use Rattle.frame.specs.Places.{partition_count, partition_size, partition_start, length_of, partition_span, token_spans, tokens_inside_of}
use Rattle.frame.specs.Take.{Taken, nothing_taken, first_of, sizes_place, tile_of_of, answer_of, whole_of, partitions_placed, coded_of, given_header, taken_of}
use Rattle.frame.specs.PlacesLaws.{place_stays, place_after, inside_all}
use Rattle.frame.specs.Entries.{entries}
use Rattle.frame.specs.TakeLaws.{take_coded}
use Rattle.frame.specs.Passes.{unplaced}
use Rattle.frame.specs.PassesLaws.{no_refusal, Way, refused, whole, way, place_is}

-- two frames with the same bytes below place n
pub record SameBelow (n : ℕ) (b c : List ℕ) : Type 0 where
  pub same : (i : ℕ) → i < n → get_or b i 0 ≡ get_or c i 0

module _ {n : ℕ} {b c : List ℕ} (s : SameBelow n b c) where
  two_same : (i : ℕ) → i + 2 ≤ n → two_at b i ≡ two_at c i
  unfolding two_at
  two_same i h = ap₂ (λ (x y : ℕ). x + 256 * y) (s.same i (omega arith)) (s.same (i + 1) (omega arith))

  three_same : (i : ℕ) → i + 3 ≤ n → three_at b i ≡ three_at c i
  unfolding three_at
  three_same i h =
      let x = s.same i (omega arith) in
      let y = s.same (i + 1) (omega arith) in
      let z = s.same (i + 2) (omega arith) in
      λ j. x j + 256 * y j + 65536 * z j

  -- ---- the tag
  module _ (h : 10 ≤ n) where
    tag_same : tag_of b ≡ tag_of c
    tag_same = three_same 0 (omega arith)

    fine_same : leb 10 (length b) ≡ leb 10 (length c) → tag_fine b ≡ tag_fine c
    unfolding tag_fine
    fine_same l =
        let t = tag_same in
        let p = s.same 3 (omega arith) in
        let q = s.same 4 (omega arith) in
        let r = s.same 5 (omega arith) in
        let w = two_same 6 (omega arith) in
        let v = two_same 8 (omega arith) in
        λ i. l i && eqb (t i % 2) 0 && (eqb (p i) 157 && eqb (q i) 1 && eqb (r i) 42) && leb (t i / 2 % 8) 3 && leb 1 (w i % 16384) && leb 1 (v i % 16384)

    place_same : sizes_place b ≡ sizes_place c
    place_same = ap (λ (t : ℕ). 10 + t / 32) tag_same

    -- ---- the first partition
    first_same : sizes_place b ≤ n → sizes_place b ≤ length b → sizes_place c ≤ length c → given_header b ≡ given_header c
    unfolding given_header
    first_same k m o =
        ap (λ (x : List ℕ). run header x (first_reader x))
        (part_same b c (first_of b) (first_of c) (record { fits = m }) (record { fits = o }) (ap (λ (t : ℕ). t / 32) tag_same) (λ i l. s.same (10 + i) (omega arith)))

  -- ---- the sizes of the token partitions
  module _ (table count : ℕ) (h : table + 3 * (count - 1) ≤ n) where
    size_same : (i : ℕ) → partition_size b table count i ≡ partition_size c table count i
    unfolding partition_size
    size_same i =
        ⊎_elim
        (λ l. rw (lt-ltb (i + 1) count l, partition_size) (three_same (table + 3 * i) (omega arith)))
        (λ g. rw (le-ltb (i + 1) count g, partition_size) refl)
        (lt_or (i + 1) count)

    start_same : (i : ℕ) → partition_start b table count i ≡ partition_start c table count i
    unfolding partition_start
    start_same zero = refl
    start_same (suc i) = ap₂ ◌+◌ (start_same i) (size_same i)

    length_same : (i at : ℕ) → i + 1 < count → length_of b table count i at ≡ length_of c table count i at
    unfolding length_of
    length_same i at l = rw (lt-ltb (i + 1) count l, length_of) (three_same (table + 3 * i) (omega arith))

    -- the last one's hangs on the frame's too
    last_same : length b ≡ length c → (i at : ℕ) → length_of b table count i at ≡ length_of c table count i at
    unfolding length_of
    last_same long i at = ⊎_elim (length_same i at) (λ g. rw (le-ltb (i + 1) count g, length_of) (ap (λ (m : ℕ). m - at) long)) (lt_or (i + 1) count)

  module _ (long : length b ≡ length c) (table count : ℕ) (h : table + 3 * (count - 1) ≤ n) where
    abbrev starts : (i : ℕ) → partition_start b table count i ≡ partition_start c table count i
    starts = start_same table count h

    whole_same : (i : ℕ) → length_of b table count i (partition_start b table count i) ≡ length_of c table count i (partition_start c table count i)
    whole_same i = ap (length_of b table count i) (starts i) ∙ last_same table count h long i (partition_start c table count i)

    span_same : (i : ℕ) → partition_span b table count i (partition_start b table count i) ≡ partition_span c table count i (partition_start c table count i)
    unfolding partition_span
    span_same i = λ j. elim (ltb i count) [ true ↦ record { start = starts i j; len = whole_same i j } | false ↦ no_span ]

    spans_same : token_spans b table count ≡ token_spans c table count
    unfolding token_spans
    spans_same = build_same 8 _ _ (λ i h. span_same i)

    inside_same : tokens_inside_of b table count ≡ tokens_inside_of c table count
    unfolding tokens_inside_of
    inside_same = λ j. leb (table + 3 * (count - 1)) (long j) && below count j
      where
        below : (k : ℕ) → all_below k (λ i. leb (partition_start b table count i + length_of b table count i (partition_start b table count i)) (length b))
            ≡ all_below k (λ i. leb (partition_start c table count i + length_of c table count i (partition_start c table count i)) (length c))
        below zero = refl
        below (suc k) = λ j. leb (starts k j + whole_same k j) (long j) && below k j

-- ---- what is taken of a coded header, but for where the token partitions lie
abbrev pub coded_unplaced : List ℕ → Given Header → Taken
coded_unplaced b (given h r) = unplaced (record { answer = answer_of b h r; header = entries h })
coded_unplaced b missing = nothing_taken 14

module _ {b c : List ℕ} where
  answer_same : (h : Header) (r : Reader) → SameBelow (sizes_place b) b c → coded_unplaced b (given h r) ≡ coded_unplaced c (given h r)
  answer_same h r s =
      let t = tag_same s (omega arith) in
      let w = two_same s 6 (omega arith) in
      let v = two_same s 8 (omega arith) in
      λ j. record {
        answer = record {
          number = 0;
          tile = record {
            first = record { start = 10; len = t j / 32 };
            tokens = [];
            reader = r;
            count = partition_count h.partitions;
            width = rounded_of (w j % 16384);
            height = rounded_of (v j % 16384);
          };
          shown = record { width = w j % 16384; height = v j % 16384 };
          simple = not (eqb h.filter.kind 0);
        };
        header = entries h;
      }

-- ---- a frame that is taken, and another with the same bytes below n
module _ (b c : List ℕ) where
  module _ (h : Header) (r : Reader) (tag : tag_fine b ≡ true) (inside : sizes_place b ≤ length b) (two : 2 ≤ first_size_of b) (g : given_header b ≡ given h r)
      (placed : tokens_inside_of b (sizes_place b) (partition_count h.partitions) ≡ true) where
    abbrev count : ℕ
    count = partition_count h.partitions

    abbrev table : ℕ
    table = sizes_place b

    -- where partition i starts
    start_is : (i : ℕ) → i < 8 → i < count → (span_at_of (tile_of_of b h r) i).start ≡ partition_start b table count i
    start_is i m l = ap (λ (x : Span). x.start) (place_is b h r i m l)

    module _ (n : ℕ) (s : SameBelow n b c) (k : table + 3 * (count - 1) ≤ n) where
      ten : 10 ≤ n
      ten = omega arith

      -- it is taken too where its token partitions lie inside
      other_taken : table ≤ length c → tokens_inside_of c table count ≡ true → taken_of c ≡ whole_of c h r
      unfolding given_header partitions_placed
      other_taken l t =
          let o : sizes_place c ≤ length c = rw (place_same s ten) at l in
          let e : leb 10 (length b) ≡ leb 10 (length c) = le-leb 10 (length b) (omega arith) ∙ sym (le-leb 10 (length c) (omega arith)) in
          let f : tokens_inside_of c (sizes_place c) count ≡ true = rw (place_same s ten) at t in
          sym (take_coded c (sym (fine_same s ten e) ∙ tag) refl (le-leb (sizes_place c) (length c) o) (rw (tag_same s ten) at two) refl)
          ∙ ap (coded_of c) (sym (first_same s ten (omega arith) inside o) ∙ g)
          ∙ rw (f, partitions_placed) refl

      -- of one length: the same is taken
      same_whole : length b ≡ length c → whole_of c h r ≡ whole_of b h r
      unfolding whole_of
      same_whole long =
          let z : token_spans c (sizes_place c) count ≡ token_spans b table count = ap (λ (m : ℕ). token_spans c m count) (sym (place_same s ten)) ∙ sym (spans_same s long table count k) in
          let f : SameBelow table b c = record { same = λ i l. s.same i (omega arith) } in
          let a = answer_same h r f in
          λ j. record {
            answer = record {
              number = 0;
              tile = record {
                first = (sym a j).answer.tile.first;
                tokens = z j;
                reader = r;
                count = count;
                width = (sym a j).answer.tile.width;
                height = (sym a j).answer.tile.height;
              };
              shown = (sym a j).answer.shown;
              simple = not (eqb h.filter.kind 0);
            };
            header = entries h;
          }

      same_taken : length b ≡ length c → taken_of c ≡ whole_of b h r
      same_taken long = other_taken (rw long at inside) (sym (inside_same s long table count k) ∙ placed) ∙ same_whole long

      -- of any length, from the last token partition on anything: the others lie where they lay
      module _ (few : count ≤ 8) (p : ℕ) (last : p + 1 ≡ count) (upto : partition_start b table count p ≤ length c) where
        cut_inside : tokens_inside_of c table count ≡ true
        cut_inside =
            let e : p + (8 - p) ≡ 8 = omega arith in
            let f : partition_start c table count 8 ≡ partition_start c table count p = rw e at (place_stays c table count p (8 - p) (omega arith)) in
            inside_all c table count few (omega (arith, f, start_same s table count k p))

        cut_taken : taken_of c ≡ whole_of c h r
        cut_taken = other_taken (omega (arith, place_after b table count p)) cut_inside

        cut_span : (q : ℕ) → q < p → span_at_of (tile_of_of b h r) q ≡ span_at_of (tile_of_of c h r) q
        cut_span q l =
            place_is b h r q (omega arith) (omega arith)
            ∙ (λ j. record { start = start_same s table count k q j; len = (ap (length_of b table count q) (start_same s table count k q) ∙ length_same s table count k q (partition_start c table count q) (omega arith)) j })
            ∙ ap (λ (m : ℕ). record { start = partition_start c m count q; len = length_of c m count q (partition_start c m count q) }) (place_same s ten)
            ∙ sym (place_is c h r q (omega arith) (omega arith))

  -- THE LAW of one length: the same bytes before the token partitions
  pub taken_head : (taken_of b).answer.number ≡ 0 → length b ≡ length c → SameBelow (span_at_of (taken_of b).answer.tile 0).start b c → taken_of c ≡ taken_of b
  unfolding nothing_taken whole_of partition_start
  taken_head = go (way b)
    where
      go : {t : Taken} → Way b t → t.answer.number ≡ 0 → length b ≡ length c → SameBelow (span_at_of t.answer.tile 0).start b c → taken_of c ≡ t
      go (refused n k) e l s = no_refusal k e
      go (whole h r tag inside two g placed) e l s =
          same_taken h r tag inside two g placed _ s (omega (arith, start_is h r tag inside two g placed 0 (lit< tt) (pow_pos h.partitions))) l

  -- THE LAW of a cut: the same bytes before the last token partition, p
  pub taken_cut : (p : ℕ) → (taken_of b).answer.number ≡ 0 → (taken_of b).answer.tile.count ≤ 8 → p + 1 ≡ (taken_of b).answer.tile.count → (span_at_of (taken_of b).answer.tile p).start ≤ length c
      → SameBelow (span_at_of (taken_of b).answer.tile p).start b c → ((taken_of c).answer.number ≡ 0) × ((q : ℕ) → q < p → span_at_of (taken_of b).answer.tile q ≡ span_at_of (taken_of c).answer.tile q)
  unfolding nothing_taken whole_of
  taken_cut p = go (way b)
    where
      go : {t : Taken} → Way b t → t.answer.number ≡ 0 → t.answer.tile.count ≤ 8 → p + 1 ≡ t.answer.tile.count → (span_at_of t.answer.tile p).start ≤ length c
          → SameBelow (span_at_of t.answer.tile p).start b c → ((taken_of c).answer.number ≡ 0) × ((q : ℕ) → q < p → span_at_of t.answer.tile q ≡ span_at_of (taken_of c).answer.tile q)
      go (refused n k) e few last upto s = no_refusal k e
      go (whole h r tag inside two g placed) e few last upto s =
          let i = start_is h r tag inside two g placed p (omega arith) (omega arith) in
          let k = place_after b (sizes_place b) (partition_count h.partitions) p in
          let d = cut_taken h r tag inside two g placed _ s (omega (arith, i, k)) few p last (omega (arith, i)) in (
            ap (λ (x : Taken). x.answer.number) d,
            λ q l. cut_span h r tag inside two g placed _ s (omega (arith, i, k)) few p last (omega (arith, i)) q l ∙ ap (λ (x : Taken). span_at_of x.answer.tile q) (sym d),
          )

-- ---- THE LAW for any lengths: two frames that are taken, with the same bytes up to the end of the first partition
module _ (b c : List ℕ) where
  pub taken_same : (taken_of b).answer.number ≡ 0 → (taken_of c).answer.number ≡ 0 → SameBelow ((taken_of b).answer.tile.first.start + (taken_of b).answer.tile.first.len) b c → unplaced (taken_of b) ≡ unplaced (taken_of c)
  unfolding nothing_taken whole_of
  taken_same = go (way b) (way c)
    where
      go : {t u : Taken} → Way b t → Way c u → t.answer.number ≡ 0 → u.answer.number ≡ 0 → SameBelow (t.answer.tile.first.start + t.answer.tile.first.len) b c → unplaced t ≡ unplaced u
      go (refused n k) w e f s = no_refusal k e
      go (whole h r tag inside two g placed) (refused n k) e f s = no_refusal k f
      go (whole h r tag inside two g placed) (whole h₂ r₂ tag₂ inside₂ two₂ g₂ placed₂) e f s =
          answer_same h r s ∙ ap (coded_unplaced c) (sym g ∙ first_same s (omega arith) (omega arith) inside inside₂ ∙ g₂)
