-- A symbol read and written again with the same probability (RFC 6386, section 7.3, both ways): what `ask` answers.
use Rattle.numbers.specs.Words.{ℕ, List}
use Rattle.wide.specs.Wide.{fill_of, wide_bit_of}
use Rattle.writer.specs.Room.{write_in}
use Rattle.recode.specs.declared.pipe.Asked.{Asked}
use Rattle.recode.specs.declared.pipe.Pipe.{Pipe}

-- the answer and the room
pub record PipeAsked : Type 0 where
  pub answer : Asked
  pub room : List ℕ

-- the two as one
abbrev pub asked_of : Asked → List ℕ → PipeAsked
asked_of answer room = record { answer = answer; room = room }

-- `ask`: the wide reader, filled, reads the symbol, and the writer writes it
unfoldable pub ask_of : List ℕ → Pipe → List ℕ → ℕ → PipeAsked
ask_of s p room prob =
    let b = wide_bit_of (fill_of s p.reader) prob in
    let w = write_in p.writer room prob b.on in
    asked_of (record { bit = b.on; next = record { reader = b.next; writer = w.writer } }) w.room
