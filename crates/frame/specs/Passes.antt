-- What a frame that is taken has, and what a refusal is.
use Rattle.std.specs.Prelude.{◌+◌, ◌≤◌, ◌<◌, ◌≡◌, ◌⊎◌}
use Rattle.numbers.specs.Words.{ℕ, List, [], length, ℤ, pos, negsuc, Each}
use Rattle.header.specs.Header.{entry_count}
use Rattle.tile.specs.declared.Tile.{Tile}
use Rattle.tile.specs.Tile.{span_at_of, Sides, Counted, Cut}
use Rattle.frame.specs.Take.{Taken, refused_answer, nothing_taken}

-- a side covers the true size, by less than 16 more
pub record Covers (true side : ℕ) : Type 0 where
  pub whole : true ≤ side
  pub tight : side < true + 16

-- what the picture call's checks 1, 2, 3 and 5 ask of a frame's bytes, its tile and its header, and 4 of the header; and the true sizes
-- lie in the picture
pub record Passes (b : List ℕ) (t : Taken) : Type 0 where
  pub sides : Sides t.answer.tile.width t.answer.tile.height
  pub counted : Counted t.answer.tile.count
  pub each : Each (negsuc 254) (pos 255) t.header
  pub long : length t.header ≡ entry_count
  pub cut : Cut b t.answer.tile
  pub width : Covers t.answer.shown.width t.answer.tile.width
  pub height : Covers t.answer.shown.height t.answer.tile.height

-- the partitions of a tile follow one another: the first, then the token partitions in order
pub record InOrder (t : Tile) : Type 0 where
  pub first : t.first.start + t.first.len ≤ (span_at_of t 0).start
  pub tokens : (i k : ℕ) → i < k → k < t.count → (span_at_of t i).start + (span_at_of t i).len ≤ (span_at_of t k).start

-- what was taken, without where the token partitions lie
abbrev pub unplaced : Taken → Taken
unplaced t =
    let a = t.answer in
    record {
      answer = record {
        number = a.number;
        tile = record { first = a.tile.first; tokens = []; reader = a.tile.reader; count = a.tile.count; width = a.tile.width; height = a.tile.height };
        shown = a.shown;
        simple = a.simple;
      };
      header = t.header;
    }

-- a refusal gives its number and zeros, and the number is 12, 13 or 14
pub record FrameRefused (t : Taken) : Type 0 where
  pub number : (t.answer.number ≡ 12) ⊎ (t.answer.number ≡ 13) ⊎ (t.answer.number ≡ 14)
  pub zeros : t ≡ nothing_taken t.answer.number

-- with the entries lent: the number may be 9 too, and the entries are as they were
pub record FrameKept (old : List ℤ) (t : Taken) : Type 0 where
  pub number : (t.answer.number ≡ 9) ⊎ (t.answer.number ≡ 12) ⊎ (t.answer.number ≡ 13) ⊎ (t.answer.number ≡ 14)
  pub zeros : t.answer ≡ refused_answer t.answer.number
  pub unchanged : t.header ≡ old
