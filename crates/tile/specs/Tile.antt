-- What a call is given.
use Rattle.std.specs.Prelude.{◌%◌, ◌+◌, ◌*◌, ◌/◌, ◌≤◌, ◌<◌, ◌≡◌, ◌&&◌}
use Rattle.numbers.specs.Words.{ℕ, true, false, eqb, ltb, List, get_or, take, drop, build, Bool, leb, length, all_below}
use Rattle.reader.specs.declared.boolean.Reader.{Reader}
use Rattle.reader.specs.Reading.{first_reader, no_reader_of, valid_of, Valid}
pub use Rattle.tile.specs.declared.Span.{Span}
pub use Rattle.tile.specs.declared.Tile.{Tile}

-- ==== Partitions: spans of the bytes. They may overlap; each is read from its own span, so that everything above speaks of a
-- partition's contents only.

-- the contents of a span; what lies past the end of the bytes is not there
unfoldable pub contents_of : List ℕ → Span → List ℕ
contents_of bytes s = take s.len (drop s.start bytes)

-- the span of a token partition that is not there: empty
abbrev pub no_span : Span
no_span = record { start = 0; len = 0 }

-- the span of token partition i, the empty one past the eight
unfoldable pub span_at_of : Tile → ℕ → Span
span_at_of t i = elim (ltb i 8) [ true ↦ get_or t.tokens i no_span | false ↦ no_span ]

-- the contents of token partition i
abbrev pub token_contents : List ℕ → Tile → ℕ → List ℕ
token_contents bytes t i = contents_of bytes (span_at_of t i)

-- a row reads the token partition of its number modulo the count (source 20.4, 8183-8196; no prose of RFC 6386 says it)
unfoldable pub pick_of : (row count : ℕ) → ℕ
pick_of row count = elim (eqb count 0) [ true ↦ 0 | false ↦ row % count ]

-- the reader that token partition i starts with; past the count there is none
unfoldable pub reader_of_of : List ℕ → Tile → ℕ → Reader
reader_of_of bytes t i = elim (ltb i t.count) [ true ↦ first_reader (token_contents bytes t i) | false ↦ no_reader_of ]

-- the readers of all eight
unfoldable pub readers_of : List ℕ → Tile → List Reader
readers_of bytes t = build 8 (reader_of_of bytes t)

-- ==== The argument checks of a tile, 1, 2 and 5: each as a test that computes, and as the facts that it tests (`Sides`, `Counted`, `Cut`).

-- ---- 1: width and height, each a multiple of 16 in 16..16384
unfoldable pub side_of : ℕ → Bool
side_of n = leb 16 n && leb n 16384 && eqb (n % 16) 0

-- both sides
unfoldable pub sides_of : ℕ → ℕ → Bool
sides_of w h = side_of w && side_of h

-- one side, as a fact
pub record Side (n : ℕ) : Type 0 where
  pub least : 16 ≤ n
  pub most : n ≤ 16384
  pub whole : n ≡ 16 * (n / 16)

-- both, as a fact
pub record Sides (w h : ℕ) : Type 0 where
  pub width : Side w
  pub height : Side h

-- the macroblocks of such a picture
abbrev pub blocks_of : ℕ → ℕ → ℕ
blocks_of w h = w / 16 * (h / 16)

-- ---- 2: the count of token partitions, 1..8
unfoldable pub count_of : ℕ → Bool
count_of n = leb 1 n && leb n 8

-- the count, as a fact
pub record Counted (n : ℕ) : Type 0 where
  pub least : 1 ≤ n
  pub most : n ≤ 8

-- ---- 5: the first partition and the first `count` token partitions inside the bytes, and the starting reader in range over the first
unfoldable pub inside_of : ℕ → Span → Bool
inside_of n s = leb (s.start + s.len) n

-- each token partition below the count lies inside
unfoldable pub tokens_fine : ℕ → Tile → Bool
tokens_fine n t = all_below t.count (λ i. inside_of n (span_at_of t i))

-- check 5
unfoldable pub partitions_of : List ℕ → Tile → Bool
partitions_of bytes t = inside_of (length bytes) t.first && tokens_fine (length bytes) t && valid_of (contents_of bytes t.first) t.reader

-- a span lies inside n bytes, as a fact
pub record Inside (n : ℕ) (s : Span) : Type 0 where
  pub fits : s.start + s.len ≤ n

-- check 5 as a fact
pub record Cut (bytes : List ℕ) (t : Tile) : Type 0 where
  pub first : Inside (length bytes) t.first
  pub tokens : (i : ℕ) → i < t.count → Inside (length bytes) (span_at_of t i)
  pub reader : Valid (contents_of bytes t.first) t.reader
