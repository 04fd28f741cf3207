-- A tile as C hands it over: the 28 numbers of `struct hookbarley_tile`.
use Rattle.std.specs.Prelude.{◌+◌, ◌<◌, ◌∷◌, ◌++◌}
use Rattle.numbers.specs.Words.{ℕ, true, false, eqb, ltb, List, [], length, get_or, listed}
use Rattle.reader.specs.declared.boolean.Reader.{Reader}
use Rattle.tile.specs.declared.Span.{Span}
use Rattle.tile.specs.declared.Tile.{Tile}
use Rattle.tile.specs.Tile.{no_span}
use Rattle.frame.specs.declared.take.ShownSize.{ShownSize}

-- sides, true sizes, filter kind, count, the first partition, eight starts, eight lengths, the reader
abbrev pub numbers_of_tile : Tile → ShownSize → ℕ → List ℕ
numbers_of_tile t shown simple =
    (t.width ∷ t.height ∷ shown.width ∷ shown.height ∷ simple ∷ t.count ∷ t.first.start ∷ t.first.len ∷ [])
    ++ listed 8 (λ i. (get_or t.tokens i no_span).start)
    ++ listed 8 (λ i. (get_or t.tokens i no_span).len)
    ++ (t.reader.at ∷ t.reader.range ∷ t.reader.shifts ∷ t.reader.window ∷ [])

-- a number as a field of 32 bits: one too large becomes the largest, which no reader in range has
unfoldable pub field_of : ℕ → ℕ
field_of n = elim (ltb n 4294967296) [ true ↦ n | false ↦ 4294967295 ]

-- a reader's three numbers fit their fields
pub record FieldsFit (a b c : ℕ) : Type 0 where
  pub range : a < 4294967296
  pub shifts : b < 4294967296
  pub window : c < 4294967296

-- token partition i: its start among the eight starts, its length among the eight lengths
abbrev pub token_span_of : List ℕ → ℕ → Span
token_span_of n i = record { start = get_or n (8 + i) 0; len = get_or n (16 + i) 0 }

-- the starting reader
abbrev pub reader_of_numbers : List ℕ → Reader
reader_of_numbers n = record { at = get_or n 24 0; range = field_of (get_or n 25 0); shifts = field_of (get_or n 26 0); window = field_of (get_or n 27 0) }

-- the tile of 28 numbers
abbrev pub tile_of_numbers : List ℕ → Tile
tile_of_numbers n =
    record {
      first = record { start = get_or n 6 0; len = get_or n 7 0 };
      tokens = listed 8 (token_span_of n);
      reader = reader_of_numbers n;
      count = get_or n 5 0;
      width = get_or n 0 0;
      height = get_or n 1 0;
    }

-- what they have beside it
abbrev pub shown_of_numbers : List ℕ → ShownSize
shown_of_numbers n = record { width = get_or n 2 0; height = get_or n 3 0 }

-- 28 numbers stored where there is room for 28; else nothing
unfoldable pub put_of : (old new : List ℕ) → List ℕ
put_of old new = elim (eqb (length old) 28) [ true ↦ new | false ↦ old ]
