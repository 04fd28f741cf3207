-- THE call: the key frame's own header made into what the picture call takes, with its refusals in order.
use Rattle.std.specs.Prelude.{◌+◌}
use Rattle.numbers.specs.Words.{ℕ, true, false, not, eqb, ltb, leb, List, length, replicate, ℤ, pos}
use Rattle.reader.specs.declared.boolean.Reader.{Reader}
use Rattle.reader.specs.Reading.{Given, given, missing, first_reader, no_reader_of, run}
use Rattle.header.specs.Header.{entry_count}
use Rattle.tile.specs.declared.Span.{Span}
use Rattle.tile.specs.declared.Tile.{Tile}
use Rattle.tile.specs.Tile.{no_span, contents_of}
pub use Rattle.frame.specs.declared.take.Answer.{Answer}
pub use Rattle.frame.specs.declared.take.Taken.{Taken}
use Rattle.frame.specs.Header.{Header, header}
use Rattle.frame.specs.Tag.{first_size_of, width_of, height_of, tag_fine, rounded_of}
use Rattle.frame.specs.Places.{partition_count, token_spans, tokens_inside_of}
use Rattle.frame.specs.Entries.{entries}

-- ---- a refusal: its number, and all other numbers zero
abbrev pub no_tile : Tile
no_tile = record { first = no_span; tokens = replicate 8 no_span; reader = no_reader_of; count = 0; width = 0; height = 0 }

-- the answer of a refusal
abbrev pub refused_answer : ℕ → Answer
refused_answer number = record { number = number; tile = no_tile; shown = record { width = 0; height = 0 }; simple = false }

-- a refusal, with 1096 entries of zero
unfoldable pub nothing_taken : ℕ → Taken
nothing_taken number = record { answer = refused_answer number; header = replicate entry_count (pos 0) }

-- ---- what is taken of a frame whose coded header is h, the reader after it r
-- the first partition: after ten bytes, as long as the tag says
abbrev pub first_of : List ℕ → Span
first_of b = record { start = 10; len = first_size_of b }

-- where it ends stand the sizes of the token partitions
abbrev pub sizes_place : List ℕ → ℕ
sizes_place b = 10 + first_size_of b

-- what the picture call takes: spans, reader, count, sides
abbrev pub tile_of_of : List ℕ → Header → Reader → Tile
tile_of_of b h r =
    record {
      first = first_of b;
      tokens = token_spans b (sizes_place b) (partition_count h.partitions);
      reader = r;
      count = partition_count h.partitions;
      width = rounded_of (width_of b);
      height = rounded_of (height_of b);
    }

-- the true sizes are the frame's own; filter_type 1 is the simple filter
abbrev pub answer_of : List ℕ → Header → Reader → Answer
answer_of b h r =
    record {
      number = 0;
      tile = tile_of_of b h r;
      shown = record { width = width_of b; height = height_of b };
      simple = not (eqb h.filter.kind 0);
    }

-- the answer, and the header's entries
unfoldable pub whole_of : List ℕ → Header → Reader → Taken
whole_of b h r = record { answer = answer_of b h r; header = entries h }

-- ---- the refusals in order
-- 13: the sizes of the token partitions, or one of them, past the end
unfoldable pub partitions_placed : List ℕ → Header → Reader → Taken
partitions_placed b h r = elim (tokens_inside_of b (sizes_place b) (partition_count h.partitions)) [ true ↦ whole_of b h r | false ↦ nothing_taken 13 ]

-- 14: the coded header ran out
abbrev pub coded_of : List ℕ → Given Header → Taken
coded_of b (given h r) = partitions_placed b h r
coded_of b missing = nothing_taken 14

-- the coded header, read from the first partition
unfoldable pub given_header : List ℕ → Given Header
given_header b = run header (contents_of b (first_of b)) (first_reader (contents_of b (first_of b)))

-- 12: the tag, start code or sizes; 13: the first partition past the end; 14: it has under two bytes
unfoldable pub taken_of : List ℕ → Taken
taken_of b =
    elim (tag_fine b) [
      | false ↦ nothing_taken 12
      | true ↦ elim (leb (sizes_place b) (length b)) [
        | false ↦ nothing_taken 13
        | true ↦ elim (ltb (first_size_of b) 2) [ true ↦ nothing_taken 14 | false ↦ coded_of b (given_header b) ]
      ]
    ]

-- ---- a list stored over another of its length; over one of another length it is not
unfoldable pub stored_of : (old new : List ℤ) → List ℤ
stored_of old new = elim (eqb (length old) (length new)) [ true ↦ new | false ↦ old ]

-- ---- with the entries lent: 9 where there are not 1096, before anything else; a refusal leaves them as they were
unfoldable pub into_of : List ℕ → List ℤ → Taken
into_of b old =
    elim (eqb (length old) entry_count) [
      | false ↦ record { answer = refused_answer 9; header = old }
      | true ↦ elim (eqb (taken_of b).answer.number 0) [
        | true ↦ taken_of b
        | false ↦ record { answer = (taken_of b).answer; header = old }
      ]
    ]
