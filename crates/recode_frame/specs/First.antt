-- What the functions promise that write the first partition again: its header with another count, its modes, and where the parts of a frame go.
use Rattle.std.specs.Prelude.{◌+◌, ◌/◌, ◌≤◌, ◌<◌, ◌≡◌, ◌++◌}
use Rattle.numbers.specs.Words.{ℕ, List, length, drop, replicate, Bytes, ℤ}
use Rattle.reader.specs.declared.boolean.Reader.{Reader}
use Rattle.reader.specs.Reading.{given, first_reader, Valid, run, Reading, CodedSymbol, trace}
use Rattle.frame.specs.declared.fields.Header.{Header}
use Rattle.frame.specs.Header.{literal, header}
use Rattle.header.specs.Frame.{announced_of}
use Rattle.tile.specs.declared.Tile.{Tile}
use Rattle.tile.specs.Tile.{blocks_of}
use Rattle.wide.specs.WideLaws.{Sim}
use Rattle.writer.specs.Encoder.{Encoder, write_all, encode_of}
use Rattle.writer.specs.EncoderLaws.{Ready}
use Rattle.writer.specs.Room.{written_of}
use Rattle.writer.specs.KeptLaws.{Kept}
use Rattle.recode.specs.declared.pipe.Pipe.{Pipe}
use Rattle.recode.specs.Copies.{nothing, Gave}
use Rattle.choices.specs.Choices.{Call, call_of}
use Rattle.recode.specs.Recode.{first_of}
use Rattle.frame.specs.Take.{taken_of}
use Rattle.recode_frame.specs.RecodeFrame.{BeforeCount, before_count, AfterCount, after_count, no_count, header_symbols, modes_from, no_tops, all_modes, new_first, new_head}

-- the header of its parts
abbrev pub header_from : BeforeCount → ℕ → AfterCount → Header
header_from a n z = record {
  colour = a.colour;
  clamping = a.clamping;
  segments = a.segments;
  filter = a.filter;
  partitions = n;
  quantizers = z.quantizers;
  refresh = z.refresh;
  probs = z.probs;
  skip = z.skip;
  chance = z.chance;
}

-- a header read in three parts: before the count of token partitions, the count, and after it
pub record Cut (s : List ℕ) (r : Reader) (h : Header) (q : Reader) : Type 0 where
  pub before : BeforeCount
  pub count : ℕ
  pub after : AfterCount
  pub r1 : Reader
  pub r2 : Reader
  pub is : h ≡ header_from before count after
  pub first : run before_count s r ≡ given before r1
  pub middle : run (literal 2) s r1 ≡ given count r2
  pub last : run after_count s r2 ≡ given after q

-- its symbols, with the count 0
abbrev pub cut_symbols : {s : List ℕ} {r : Reader} {h : Header} {q : Reader} → Cut s r h q → List CodedSymbol
cut_symbols {s} {r} c = trace before_count s r ++ (no_count ++ trace after_count s c.r2)

-- the header copied with that count
abbrev pub HeaderRecounted : List ℕ → Pipe → List ℕ → Pipe → List ℕ → Type 0
HeaderRecounted s p room q new =
    (h : Header) (r r2 : Reader) (c : Cut s r h r2) (e : Encoder) (old : List ℕ) → Bytes s → length s < 9223372036854775808 → Sim s p.reader r → Valid s r → Ready 128 e → Kept e old (written_of p.writer room) → length (write_all e (cut_symbols c)).out < 9223372036854775808
    → Gave nothing s h r2 (write_all e (cut_symbols c)) old tt q new

-- a tile whose sides passed the checks
pub record Sized (t : Tile) : Type 0 where
  pub wide : 16 ≤ t.width
  pub width : t.width ≤ 16384
  pub height : t.height ≤ 16384

-- the modes of a tile's macroblocks
abbrev pub tile_modes : Tile → List ℤ → Reading (Unit {0})
tile_modes t header = modes_from (announced_of header) (t.width / 16) (blocks_of t.width t.height) 0 no_tops (replicate 4 0)

-- the symbols of the header, with the count 0, and of the modes
abbrev pub first_symbols : List ℕ → Tile → List ℤ → List CodedSymbol
first_symbols s t header = header_symbols s ++ trace (tile_modes t header) s t.reader

-- bytes counted, and in the room where it holds them
pub record FirstWritten (bytes room : List ℕ) (n : ℕ) (new : List ℕ) : Type 0 where
  pub long : n ≡ length bytes
  pub size : length new ≡ length room
  pub same : length bytes ≤ length room → new ≡ bytes ++ drop (length bytes) room

-- the contract: where header and modes are there
abbrev pub Rewrites : List ℕ → Tile → List ℤ → List ℕ → ℕ → List ℕ → Type 0
Rewrites s t h room n new = (x : Header) (last : Reader) → run header s (first_reader s) ≡ given x t.reader → run (tile_modes t h) s t.reader ≡ given tt last → FirstWritten (encode_of (first_symbols s t h)) room n new

-- a frame that is taken, its tile and its header
pub record IsTaken (b : List ℕ) (t : Tile) (h : List ℤ) : Type 0 where
  pub number : (taken_of b).answer.number ≡ 0
  pub tile : t ≡ (taken_of b).answer.tile
  pub header : h ≡ (taken_of b).header

-- a first partition whose header and modes are there
pub record FirstRead (c : Call) : Type 0 where
  pub coded : Header
  pub last : Reader
  pub head : run header (first_of c) (first_reader (first_of c)) ≡ given coded c.tile.reader
  pub modes : run (all_modes c) (first_of c) c.tile.reader ≡ given tt last

-- its length, found by a first pass without a room
abbrev pub Measured : List ℕ → Tile → List ℤ → ℕ → Type 0
Measured b t h n = FirstRead (call_of b t h) → n ≡ length (new_first (call_of b t h))

-- the ten bytes and the first partition in the room, before what stood behind them
abbrev pub Lays : List ℕ → Tile → List ℤ → List ℕ → ℕ → List ℕ → Type 0
Lays b t h room n new = FirstRead (call_of b t h) → n ≡ length (new_first (call_of b t h)) → new ≡ new_head b n ++ (new_first (call_of b t h) ++ drop (10 + n) room)

-- where the tokens stand: behind the first partition where the frame can tell its length, else at the end of the room
pub record Placed (n room r : ℕ) : Type 0 where
  pub inside : r ≤ room
  pub place : r < room → r ≡ 10 + n
  pub told : r < room → n ≤ 524287
  pub most : n ≤ 524287 → r ≤ 10 + n

-- the number told of a room that is too small: 18 where no room would do
pub record Numbered (number n r : ℕ) : Type 0 where
  pub other : (number ≡ 16 → ⊥) → r ≡ number
  pub room : number ≡ 16 → n ≤ 524287 → r ≡ 16
  pub long : number ≡ 16 → 524287 < n → r ≡ 18
