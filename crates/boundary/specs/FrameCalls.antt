-- The call on a key frame's header as C sees it: a number, the lent entries, and the 28 numbers of a tile.
use Rattle.numbers.specs.Words.{ℕ, zero, suc, true, false, eqb, bit_of, List, length, ℤ}
use Rattle.frame.specs.declared.take.Answer.{Answer}
use Rattle.frame.specs.declared.take.Taken.{Taken}
use Rattle.frame.specs.Take.{into_of}
use Rattle.boundary.specs.TileNumbers.{numbers_of_tile, put_of}

-- what is taken, as 28 numbers
abbrev pub numbers_of : Answer → List ℕ
numbers_of a = numbers_of_tile a.tile a.shown (bit_of a.simple)

-- a tile after the call from a frame to the screen: what was taken, or after a refusal what it was
unfoldable pub tile_after : (old : List ℕ) → Answer → List ℕ
tile_after old a = elim a.number [ zero ↦ put_of old (numbers_of a) | suc n ↦ old ]

-- what `hookbarley_frame` leaves: its number, the entries, the 28 numbers
pub record FrameCalled : Type 0 where
  pub number : ℕ
  pub header : List ℤ
  pub tile : List ℕ

-- what is taken of a frame, as C sees it
abbrev pub to_frame_called : Taken → FrameCalled
to_frame_called t = record { number = t.answer.number; header = t.header; tile = numbers_of t.answer }

-- 28 numbers, else 9 and nothing changed
unfoldable pub frame_called_of : List ℕ → List ℤ → List ℕ → FrameCalled
frame_called_of b header tile =
    elim (eqb (length tile) 28) [ true ↦ to_frame_called (into_of b header) | false ↦ record { number = 9; header = header; tile = tile } ]
