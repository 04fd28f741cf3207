-- What a well-formed file has, and the laws of its parts.
use Rattle.std.specs.Prelude.{◌+◌, ◌*◌, ◌≤◌, ◌<◌, ◌≡◌, ◌&&◌, ◌-ℤ◌}
use Rattle.numbers.specs.Words.{ℕ, add-one, arith, refl, ◌∙◌, ap, subst, true, false, ⊎_elim, eqb, leb, lt_or, both_left, both_right, le-leb, le-ltb, leb-true, lt-leb, lt-ltb, List, length, byte_at, ℤ, pos, negsuc, In, Know, num, plainly, round, know_sub, wider, unsigned_below, answered, w32}
use Rattle.reader.specs.declared.boolean.Reader.{Reader}
use Rattle.reader.specs.Reading.{first_reader}
use Rattle.tile.specs.declared.Span.{Span}
use Rattle.tile.specs.declared.Tile.{Tile}
use Rattle.tile.specs.Tile.{contents_of, no_span}
use Rattle.casefile.specs.CaseFile.{half_at, word_at, case_signed, case_width, case_height, case_count, case_version, rest_of, entry_at, length_at, start_at, partition_at, slot_of, case_spans, case_whole, well_formed_of, case_tile}
pub use Rattle.casefile.specs.CaseFile.{Formed}

-- ---- where partitions start
module _ (s : List ℕ) where
  pub start_none : 2206 + 4 * case_count s ≡ start_at s 0
  unfolding start_at
  start_none = refl

  pub start_next : (i : ℕ) → start_at s (i + 1) ≡ start_at s i + length_at s i
  unfolding start_at
  start_next i = rw (add-one i)

-- ---- well-formed
module _ (s : List ℕ) where
  pub not_whole : length s < 2206 + 4 * case_count s → false ≡ case_whole s
  unfolding case_whole
  not_whole h = rw (lt-leb _ _ h)

  pub whole_rest : 2206 + 4 * case_count s ≤ length s → eqb (start_at s (case_count s + 1)) (length s) ≡ case_whole s
  unfolding case_whole
  whole_rest h = rw (le-leb _ _ h)

  pub too_short : length s < 2206 → false ≡ well_formed_of s
  unfolding well_formed_of
  too_short h = rw (lt-leb _ _ h)

  pub long_enough : 2206 ≤ length s → leb (length s) 65536 && eqb (case_version s) 1 && eqb (rest_of s + 5) (length s) && leb (case_width s) 64 && leb (case_height s) 64 && case_whole s ≡ well_formed_of s
  unfolding well_formed_of
  long_enough h = rw (le-leb _ _ h)

  pub well_formed_lem : well_formed_of s ≡ true → Formed s
  unfolding well_formed_of case_whole
  well_formed_lem e =
      let plain = leb (length s) 65536 && eqb (case_version s) 1 && eqb (rest_of s + 5) (length s) in
      let wide = plain && leb (case_width s) 64 in
      let high = wide && leb (case_height s) 64 in
      let fields = leb (2206 + 4 * case_count s) (length s) in
      let b = both_right (leb 2206 (length s)) _ e in
      let w = both_right high (case_whole s) b in
      let h = both_left high (case_whole s) b in
      record {
        long = leb-true 2206 _ (both_left _ _ e);
        width = leb-true _ 64 (both_right plain _ (both_left wide _ h));
        height = leb-true _ 64 (both_right wide _ h);
        room = leb-true _ _ (both_left fields _ w);
      }

-- ---- numbers
module _ (s : List ℕ) (i : ℕ) where
  pub half_is : {a b : ℕ} → (a ≡ byte_at s i) × (a < 256) → (b ≡ byte_at s (i + 1)) × (b < 256) → (a * 256 + b ≡ half_at s i) × (a * 256 + b < 65536)
  unfolding half_at
  half_is p q = (rw (p.0, q.0), omega arith)

  pub word_is : {a b : ℕ} → (a ≡ half_at s i) × (a < 65536) → (b ≡ half_at s (i + 2)) × (b < 65536) → (a * 65536 + b ≡ word_at s i) × (a * 65536 + b < 4294967296)
  unfolding word_at
  word_is p q = (rw (p.0, q.0), omega arith)

pub signed_low : (n : ℕ) → n < 32768 → pos n ≡ case_signed n
unfolding case_signed
signed_low n h = rw (lt-ltb _ _ h, case_signed)

pub signed_high : (n : ℕ) → 32768 ≤ n → pos n -ℤ pos 65536 ≡ case_signed n
unfolding case_signed
signed_high n h = rw (le-ltb _ _ h, case_signed)

bounds : {t z l h : ℤ} → Know t z l h → In l h z
bounds k = record { low = k.low; high = k.high }

signed_in : (n : ℕ) → n ≤ 65535 → In (negsuc 65535) (pos 65535) (case_signed n)
signed_in n h =
    ⊎_elim
    (λ l. subst (In (negsuc 65535) (pos 65535)) (signed_low n l) (bounds (wider (plainly (unsigned_below h)) tt)))
    (λ g. subst (In (negsuc 65535) (pos 65535)) (signed_high n g) (bounds (wider (know_sub (plainly (unsigned_below h)) (num (pos 65536))) tt)))
    (lt_or n 32768)

-- an entry as the machine stores it
pub entry_stored : (s : List ℕ) (i : ℕ) {n : ℕ} {r : ℤ} → (n ≡ half_at s (10 + 2 * i)) × (n < 65536) → r ≡ case_signed n → round w32 r ≡ entry_at s i
entry_stored s i {n} p e = (answered w32 e (signed_in n (omega arith)) tt).eq ∙ ap case_signed p.0

-- ---- what is handed on
module _ (s : List ℕ) (i : ℕ) where
  pub slot_past : case_count s ≤ i → no_span ≡ slot_of s i
  unfolding slot_of
  slot_past h = rw (le-ltb i (case_count s) h, slot_of)

  pub slot_below : i < case_count s → partition_at s (i + 1) ≡ slot_of s i
  unfolding slot_of
  slot_below h = rw (lt-ltb i (case_count s) h, slot_of)

pub tile_is : (s : List ℕ) {first : Span} {tokens : List Span} {part : List ℕ} {r : Reader} {n w h : ℕ} → first ≡ partition_at s 0 → tokens ≡ case_spans s → part ≡ contents_of s first → r ≡ first_reader part → n ≡ case_count s → w ≡ case_width s → h ≡ case_height s → ◌≡◌ {A = Tile} (record { first = first; tokens = tokens; reader = r; count = n; width = w; height = h }) (case_tile s)
tile_is s a b c d n w h = rw (d, c, a, b, n, w, h)
