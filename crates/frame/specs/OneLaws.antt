-- What is taken of a frame that was taken before, written again with another first partition and one token partition: all but the partitions is
-- as it was.
use Rattle.std.specs.Prelude.{◌+◌, ◌-◌, ◌*◌, ◌/◌, ◌%◌, ◌≤◌, ◌<◌, ◌≡◌, ◌&&◌, ◌∷◌}
use Rattle.numbers.specs.Words.{ℕ, zero, suc, zero-add, arith, refl, sym, ◌∙◌, ap, ap₂, true, not, eqb, leb, both_left, le-leb, List, length, get_or, replicate, built, get_or_constant}
use Rattle.reader.specs.declared.boolean.Reader.{Reader}
use Rattle.reader.specs.Reading.{given, first_reader, run}
use Rattle.tile.specs.Tile.{no_span, contents_of}
use Rattle.frame.specs.declared.fields.Header.{Header}
use Rattle.frame.specs.declared.take.Taken.{Taken}
use Rattle.frame.specs.Header.{header}
use Rattle.frame.specs.Tag.{two_at, tag_of, first_size_of, width_of, height_of, inter_of, version_of, tag_fine}
use Rattle.frame.specs.Places.{partition_count, partition_start, partition_span, token_spans}
use Rattle.frame.specs.PlacesLaws.{place_stays, span_none, span_last}
use Rattle.frame.specs.Entries.{entries}
use Rattle.frame.specs.Take.{nothing_taken, whole_of, coded_of, taken_of}
use Rattle.frame.specs.TakeLaws.{take_coded, taken_whole}
use Rattle.frame.specs.PassesLaws.{no_refusal, Way, refused, whole, way}

tag_long : (b : List ℕ) → tag_fine b ≡ true → leb 10 (length b) ≡ true
unfolding tag_fine
tag_long b e = both_left _ _ (both_left _ _ (both_left _ _ (both_left _ _ (both_left _ (leb 1 (height_of b)) e))))

-- ---- the places of one partition: what lies behind the first
module _ (c : List ℕ) (at : ℕ) where
  one_start : (k : ℕ) → partition_start c at 1 k ≡ at
  unfolding partition_start
  one_start k = ap (partition_start c at 1) (sym (zero-add k)) ∙ place_stays c at 1 0 k (omega arith) ∙ omega arith

  pub one_spans : record { start = at; len = length c - at } ∷ replicate 7 no_span ≡ token_spans c at 1
  unfolding token_spans
  one_spans = built (record { start = at; len = length c - at } ∷ replicate 7 no_span) 8 (λ i. partition_span c at 1 i (partition_start c at 1 i)) no_span refl each
    where
      each : (i : ℕ) → i < 8 → get_or (record { start = at; len = length c - at } ∷ replicate 7 no_span) i no_span ≡ partition_span c at 1 i (partition_start c at 1 i)
      each zero l = ap (λ (k : ℕ). record { start = k; len = length c - k }) (sym (one_start 0)) ∙ span_last c at 1 0 (partition_start c at 1 0) (omega arith) (omega arith) refl
      each (suc i) l = get_or_constant 7 i no_span ∙ span_none c at 1 (suc i) (partition_start c at 1 (suc i)) (omega arith)

version_kept : (x n : ℕ) → x / 2 % 8 ≡ (x % 32 + 32 * n) / 2 % 8
version_kept x n =
    let p : x / 2 ≡ 16 * (x / 32) + x % 32 / 2 = omega arith in
    let q : (x % 32 + 32 * n) / 2 ≡ 16 * n + x % 32 / 2 = omega arith in
    omega (arith, p, q)

-- ---- another frame: the tag's low five bits, start code and sizes of the first, and n bytes for the first partition
pub record Retagged (n : ℕ) (b c : List ℕ) : Type 0 where
  pub tag : tag_of c ≡ tag_of b % 32 + 32 * n
  pub same : (i : ℕ) → 3 ≤ i → i < 10 → get_or b i 0 ≡ get_or c i 0
  pub long : 10 + n ≤ length c

-- what is taken of it where its coded header is h, the reader after it r
abbrev pub one_taken : Taken → (n long : ℕ) → Header → Reader → Taken
one_taken t n long h r =
    record {
      answer = record {
        number = 0;
        tile = record {
          first = record { start = 10; len = n };
          tokens = record { start = 10 + n; len = long - (10 + n) } ∷ replicate 7 no_span;
          reader = r;
          count = 1;
          width = t.answer.tile.width;
          height = t.answer.tile.height;
        };
        shown = t.answer.shown;
        simple = not (eqb h.filter.kind 0);
      };
      header = entries h;
    }

module _ {n : ℕ} {b c : List ℕ} (s : Retagged n b c) where
  two_kept : (i : ℕ) → 3 ≤ i → i < 9 → two_at b i ≡ two_at c i
  unfolding two_at
  two_kept i h l = ap₂ (λ (x y : ℕ). x + 256 * y) (s.same i h (omega arith)) (s.same (i + 1) (omega arith) (omega arith))

  fine_kept : tag_fine b ≡ true → tag_fine c ≡ true
  unfolding tag_fine
  fine_kept e =
      let l : leb 10 (length b) ≡ leb 10 (length c) = tag_long b e ∙ sym (le-leb 10 (length c) (omega (arith, s.long))) in
      let t : inter_of b ≡ inter_of c = omega (arith, s.tag) in
      let v : version_of b ≡ version_of c = version_kept (tag_of b) n ∙ sym (ap (λ (t : ℕ). t / 2 % 8) s.tag) in
      let x = s.same 3 (omega arith) (omega arith) in
      let y = s.same 4 (omega arith) (omega arith) in
      let z = s.same 5 (omega arith) (omega arith) in
      let w = two_kept 6 (omega arith) (omega arith) in
      let h = two_kept 8 (omega arith) (omega arith) in
      sym (λ i. l i && eqb (t i) 0 && (eqb (x i) 157 && eqb (y i) 1 && eqb (z i) 42) && leb (v i) 3 && leb 1 (w i % 16384) && leb 1 (h i % 16384)) ∙ e

  -- THE LAW
  pub taken_one : (taken_of b).answer.number ≡ 0 → 2 ≤ n → {x : List ℕ} → x ≡ contents_of c (record { start = 10; len = n }) → (h : Header) (r : Reader) → run header x (first_reader x) ≡ given h r → h.partitions ≡ 0
      → taken_of c ≡ one_taken (taken_of b) n (length c) h r
  unfolding nothing_taken whole_of
  taken_one z two {x} cut h r g one = go (way b) z
    where
      go : {t : Taken} → Way b t → t.answer.number ≡ 0 → taken_of c ≡ one_taken t n (length c) h r
      go (refused k w) e = no_refusal w e
      go (whole k q fine a d f i) e =
          let size : n ≡ first_size_of c = omega (arith, s.tag) in
          let w : width_of b ≡ width_of c = ap (λ (m : ℕ). m % 16384) (two_kept 6 (omega arith) (omega arith)) in
          let v : height_of b ≡ height_of c = ap (λ (m : ℕ). m % 16384) (two_kept 8 (omega arith) (omega arith)) in
          sym (take_coded c (fine_kept fine) size (le-leb (10 + n) (length c) s.long) two cut)
          ∙ ap (coded_of c) g
          ∙ sym (taken_whole c h r size (sym (ap partition_count one)) (omega arith) (omega arith) (sym (one_start c (10 + n) 8)) w v refl refl (one_spans c (10 + n)) refl s.long)
