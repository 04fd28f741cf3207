-- The laws of partitions that callers cite: what a partition holds, and that the reader it starts with is in range over it.
use Rattle.std.specs.Prelude.{◌+◌, ◌-◌, ◌%◌, ◌≤◌, ◌<◌, ◌≡◌, ◌⊎◌}
use Rattle.numbers.specs.Words.{ℕ, mod-lt, arith, sym, ◌∙◌, ap, ⊎_elim, lit<, lt_or, eq-eqb, le-ltb, lt-ltb, ne_eqb, List, length, get_or, take, drop, get_or-eq_default, drop_of_length-le, length-drop, length-take, ext_get_or, get_or-drop, get_or-take, length-take-le, take_all, length_build, get_or_build}
use Rattle.reader.specs.declared.boolean.Reader.{Reader}
use Rattle.reader.specs.Reading.{first_reader, no_reader_of}
use Rattle.reader.specs.ReadingLaws.{Bytes, Valid, first_valid}
use Rattle.tile.specs.Tile.{Span, Tile, contents_of, no_span, span_at_of, token_contents, pick_of, reader_of_of, readers_of, Inside}

-- ---- the contents of a span
module _ (bytes : List ℕ) (s : Span) where
  pub part_length : Inside (length bytes) s → length (contents_of bytes s) ≡ s.len
  unfolding contents_of
  part_length h = length-take-le s.len (drop s.start bytes) (rw length-drop (omega (arith, h.fits)))

  part_most : length (contents_of bytes s) ≤ s.len
  unfolding contents_of
  part_most = rw length-take (omega arith)

  pub part_at : (i : ℕ) → i < s.len → get_or (contents_of bytes s) i 0 ≡ get_or bytes (s.start + i) 0
  unfolding contents_of
  part_at i h = rw (get_or-take, get_or-drop)

  pub part_bytes : Bytes bytes → Bytes (contents_of bytes s)
  part_bytes y i =
      ⊎_elim
      (λ l. rw (part_at i l) (y (s.start + i)))
      (λ g. rw (get_or-eq_default (contents_of bytes s) 0 {n = i} (omega (arith, part_most))) (lit< tt))
      (lt_or i s.len)

-- a list's first n, where n is cut at its end
take_cut : (l : List ℕ) (k n : ℕ) → (k ≡ n) ⊎ (k ≡ length l) → k ≤ n → take k l ≡ take n l
take_cut l k n c h = ⊎_elim
    (λ (e : k ≡ n). ap (λ (m : ℕ). take m l) e)
    (λ (e : k ≡ length l). take_all k l (omega arith) ∙ sym (take_all n l (omega arith)))
    c

-- as the code cuts a span: its start and its length, each cut at the end of the bytes
pub part_cut : (bytes : List ℕ) (s : Span) {a n : ℕ} → a ≤ s.start → (a ≡ s.start) ⊎ (a ≡ length bytes) → n ≤ s.len → (n ≡ s.len) ⊎ (n ≡ length bytes - a) → take (a + n - a) (drop a bytes) ≡ contents_of bytes s
unfolding contents_of
part_cut bytes s {a} {n} h c g d =
    let e : a + n - a ≡ n = omega arith in
    let f : drop a bytes ≡ drop s.start bytes =
    ⊎_elim
    (λ (q : a ≡ s.start). ap (λ (m : ℕ). drop m bytes) q)
    (λ (q : a ≡ length bytes). drop_of_length-le bytes {i = a} (omega arith) ∙ sym (drop_of_length-le bytes {i = s.start} (omega arith)))
    c in
    let k : take n (drop a bytes) ≡ take s.len (drop a bytes) =
    take_cut (drop a bytes) n s.len (rw length-drop d) g in
    ap (λ (m : ℕ). take m (drop a bytes)) e ∙ k ∙ ap (take s.len) f

-- the same contents, wherever the spans lie
pub part_same : (b c : List ℕ) (s t : Span) → Inside (length b) s → Inside (length c) t → s.len ≡ t.len → ((i : ℕ) → i < s.len → get_or b (s.start + i) 0 ≡ get_or c (t.start + i) 0) → contents_of b s ≡ contents_of c t
part_same b c s t f g e h =
    let l : length (contents_of b s) ≡ s.len = part_length b s f in
    let k : length (contents_of c t) ≡ t.len = part_length c t g in
    ext_get_or 0 (contents_of b s) (contents_of c t) (l ∙ e ∙ sym k)
    (λ i o. let a : i < s.len = rw l at o in part_at b s i a ∙ h i a ∙ sym (part_at c t i (omega arith)))

-- ---- the spans of the token partitions
module _ (t : Tile) (i : ℕ) where
  pub span_at_lem : i < 8 → span_at_of t i ≡ get_or t.tokens i no_span
  unfolding span_at_of
  span_at_lem h = rw (lt-ltb i 8 h, span_at_of)

  pub span_past : 8 ≤ i → span_at_of t i ≡ no_span
  unfolding span_at_of
  span_past h = rw (le-ltb i 8 h, span_at_of)

-- ---- the partition of a row
module _ (row count : ℕ) where
  pub pick_none : count ≡ 0 → 0 ≡ pick_of row count
  unfolding pick_of
  pick_none e = rw (eq-eqb _ _ e, pick_of)

  pub pick_some : (count ≡ 0 → ⊥) → row % count ≡ pick_of row count
  unfolding pick_of
  pick_some e = rw (ne_eqb _ _ e, pick_of)

  pub pick_below : 1 ≤ count → pick_of row count < count
  pick_below h = rw (← pick_some (λ e. omega arith)) (mod-lt row {m = count} h)

-- ---- the readers
module _ (bytes : List ℕ) (t : Tile) where
  pub readers_length : length (readers_of bytes t) ≡ 8
  unfolding readers_of
  readers_length = length_build 8 (reader_of_of bytes t)

  module _ (i : ℕ) where
    pub reader_first : i < t.count → reader_of_of bytes t i ≡ first_reader (token_contents bytes t i)
    unfolding reader_of_of
    reader_first h = rw (lt-ltb i t.count h, reader_of_of)

    pub reader_none : t.count ≤ i → reader_of_of bytes t i ≡ no_reader_of
    unfolding reader_of_of
    reader_none h = rw (le-ltb i t.count h, reader_of_of)

    pub readers_at_lem : (d : Reader) → i < 8 → get_or (readers_of bytes t) i d ≡ reader_of_of bytes t i
    unfolding readers_of
    readers_at_lem d h = get_or_build 8 (reader_of_of bytes t) i d h

    -- THE LAW for callers of `openers`: the reader of a partition below the count is in range over it
    pub readers_valid : (d : Reader) → Bytes bytes → i < 8 → i < t.count → Valid (token_contents bytes t i) (get_or (readers_of bytes t) i d)
    readers_valid d y h l = rw (readers_at_lem d h, reader_first l) (first_valid (token_contents bytes t i) (part_bytes bytes (span_at_of t i) y))

-- partitions of the same contents have the same reader
pub readers_same : (b c : List ℕ) (t u : Tile) (i : ℕ) (d : Reader) → i < 8 → i < t.count → i < u.count → token_contents b t i ≡ token_contents c u i → get_or (readers_of b t) i d ≡ get_or (readers_of c u) i d
readers_same b c t u i d h k l e =
    readers_at_lem b t i d h ∙ reader_first b t i k ∙ ap first_reader e ∙ sym (readers_at_lem c u i d h ∙ reader_first c u i l)
