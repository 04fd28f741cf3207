-- There and back: a tile's numbers make the same tile, and a tile made of numbers has these numbers.
use Rattle.std.specs.Prelude.{◌≤◌, ◌<◌, ◌≡◌}
use Rattle.numbers.specs.Words.{ℕ, arith, refl, sym, ◌∙◌, ⊎_elim, lt_or, eq-eqb, le-ltb, lt-ltb, ne_eqb, List, length, get_or, listed, build_listed, built}
use Rattle.reader.specs.declared.boolean.Reader.{Reader}
use Rattle.reader.specs.Reading.{Valid}
use Rattle.tile.specs.declared.Tile.{Tile}
use Rattle.tile.specs.Tile.{no_span}
use Rattle.frame.specs.declared.take.ShownSize.{ShownSize}
use Rattle.boundary.specs.TileNumbers.{numbers_of_tile, put_of, field_of, FieldsFit, tile_of_numbers, shown_of_numbers}

-- ---- a field
module _ (n : ℕ) where
  pub field_fits : n < 4294967296 → field_of n ≡ n
  unfolding field_of
  field_fits h = rw (lt-ltb n 4294967296 h, field_of)

  pub field_large : 4294967296 ≤ n → field_of n ≡ 4294967295
  unfolding field_of
  field_large h = rw (le-ltb n 4294967296 h, field_of)

-- a field's number is small
field_small : (n : ℕ) → field_of n < 4294967296
field_small n = ⊎_elim (λ l. rw (field_fits n l) l) (λ g. rw (field_large n g) (omega arith)) (lt_or n 4294967296)

-- a tile's reader fits whatever the numbers are
pub fields_fit : (n : List ℕ) → let r = (tile_of_numbers n).reader in FieldsFit r.range r.shifts r.window
fields_fit n = record { range = field_small (get_or n 25 0); shifts = field_small (get_or n 26 0); window = field_small (get_or n 27 0) }

-- of a reader in range they do
pub valid_fits : {s : List ℕ} {r : Reader} → Valid s r → FieldsFit r.range r.shifts r.window
valid_fits v = record { range = omega (arith, v.most); shifts = omega (arith, v.few); window = omega (arith, v.small) }

-- a reader in range has numbers that fit: one made of a number too large is out of range
field_below : (n : ℕ) → field_of n < 65536 → n < 4294967296
field_below n h = ⊎_elim (λ l. l) (λ g. absurd (let e : field_of n ≡ 4294967295 = field_large n g in omega arith)) (lt_or n 4294967296)

pub fits_where_valid : (n : List ℕ) {s : List ℕ} → Valid s (tile_of_numbers n).reader → FieldsFit (get_or n 25 0) (get_or n 26 0) (get_or n 27 0)
fits_where_valid n v =
    record {
      range = field_below (get_or n 25 0) (omega (arith, v.most));
      shifts = field_below (get_or n 26 0) (omega (arith, v.few));
      window = field_below (get_or n 27 0) v.small;
    }

-- ---- what is stored
module _ (old new : List ℕ) where
  pub put_there : length old ≡ 28 → put_of old new ≡ new
  unfolding put_of
  put_there e = rw (eq-eqb _ _ e, put_of)

  pub put_nowhere : (length old ≡ 28 → ⊥) → old ≡ put_of old new
  unfolding put_of
  put_nowhere e = rw (ne_eqb _ _ e, put_of)

-- ---- a list of a known length is its elements
pub listed_is : {A : Type 0} (l : List A) (n : ℕ) (d : A) → length l ≡ n → listed n (λ i. get_or l i d) ≡ l
listed_is l n d e = sym (build_listed n (λ i. get_or l i d)) ∙ sym (built l n (λ i. get_or l i d) d e (λ i h. refl))

-- THE LAWS
pub tile_back : (t : Tile) (shown : ShownSize) (simple : ℕ) → length t.tokens ≡ 8 → FieldsFit t.reader.range t.reader.shifts t.reader.window → tile_of_numbers (numbers_of_tile t shown simple) ≡ t
tile_back t shown simple e f =
    let r : Reader = t.reader in
    λ i. record {
      first = t.first;
      tokens = listed_is t.tokens 8 no_span e i;
      reader = record { at = r.at; range = field_fits r.range f.range i; shifts = field_fits r.shifts f.shifts i; window = field_fits r.window f.window i };
      count = t.count;
      width = t.width;
      height = t.height;
    }

pub numbers_back : (n : List ℕ) → length n ≡ 28 → FieldsFit (get_or n 25 0) (get_or n 26 0) (get_or n 27 0) → numbers_of_tile (tile_of_numbers n) (shown_of_numbers n) (get_or n 4 0) ≡ n
numbers_back n e f = rw (field_fits _ f.range, field_fits _ f.shifts, field_fits _ f.window) (listed_is n 28 0 e)
