-- The picture call, and what its loops keep.
use Rattle.std.specs.Prelude.{◌+◌, ◌*◌, ◌/◌, ◌%◌, ◌<◌, ◌≤◌, ◌≡◌}
use Rattle.numbers.specs.Words.{ℕ, zero, suc, List, get_or, set, true, length, Ok, Err}
use Rattle.reader.specs.declared.boolean.Reader.{Reader}
use Rattle.reader.specs.Reading.{no_reader_of}
use Rattle.coefficients.specs.Block.{header_table}
use Rattle.modes.specs.Modes.{kinds_of, empty_context, context_fine_of, Shaped}
use Rattle.modes.specs.declared.contexts.Context.{Context}
use Rattle.header.specs.declared.frame.Frame.{Frame}
use Rattle.header.specs.Frame.{frame_of}
use Rattle.macroblock.specs.declared.arguments.Place.{Place}
use Rattle.macroblock.specs.declared.arguments.Readers.{Readers}
use Rattle.macroblock.specs.declared.arguments.Around.{Around}
use Rattle.macroblock.specs.Macroblock.{Planes, planes_of, Finished, Step, finished, no_modes, no_tokens, step_of, no_reads, reads_of}
use Rattle.choices.specs.declared.answer.Stop.TheVariants as Stop
use Rattle.lent.specs.Memory.{Memory, sizes_of, blank_of, Form, column_at, column_set, mode_set, strength_set, records_in, form_width, mode_width, strength_width, Columns}
use Rattle.tile.specs.declared.Tile.{Tile}
use Rattle.tile.specs.Tile.{contents_of, token_contents, readers_of, pick_of, blocks_of}
use Rattle.choices.specs.Choices.{beside_of, Call, named, refusal_of, Decoded}
use Rattle.macroblock.specs.declared.ending.Unfinished.TheVariants as F
use Rattle.macroblock.specs.Macroblock.{Finish}
use Rattle.header.specs.Header.{probability_count}
use Rattle.header.specs.FrameLaws.{Sound}
use Rattle.reader.specs.ReadingLaws.{Bytes, Valid}
use Rattle.macroblock.specs.declared.arguments.SymbolCounts.{SymbolCounts}

-- ==== The picture (the source's vp8_image): its macroblocks in raster order from blank memory, until one is refused.

-- ---- what the macroblocks share: the partitions' contents and their count, what the header gives to all (the frame and the table of
-- coefficient probabilities), the macroblocks in a row and the rows, and the form of the column memory
pub record Picture : Type 0 where
  pub first : List ℕ
  pub token : ℕ → List ℕ
  pub count : ℕ
  pub frame : Frame
  pub table : List ℕ
  pub wide : ℕ
  pub high : ℕ
  pub form : Form

-- the partitions cut out of the bytes, with what the header gives
abbrev pub cut_out : Form → List ℕ → Tile → Frame → List ℕ → Picture
cut_out form bytes t frame table = record {
  first = contents_of bytes t.first;
  token = token_contents bytes t;
  count = t.count;
  frame = frame;
  table = table;
  wide = t.width / 16;
  high = t.height / 16;
  form = form;
}

-- the picture of a call
abbrev pub pictured_of : Call → Picture
pictured_of c = cut_out c.form c.bytes c.tile (frame_of c.header) (header_table c.header)

-- ---- what goes from one to the next: the reader of the first partition, those of the token partitions, what lies to the left,
-- and the lent memory
pub record State : Type 0 where
  pub reader : Reader
  pub readers : List Reader
  pub left : Context
  pub mem : Memory

-- the state before the first macroblock, over memory m
abbrev pub start_of : List ℕ → Tile → Memory → State
start_of bytes t m = record { reader = t.reader; readers = readers_of bytes t; left = empty_context; mem = m }

-- the same of a call: its memory is blank
abbrev pub begun_of : Call → Memory → State
begun_of c m = start_of c.bytes c.tile (blank_of m)

-- ---- macroblock k, in raster order (RFC 6386, section 2, 269 and 300): its place, and the token partition that its row reads (source 20.4,
-- 8183-8196)
abbrev pub column_of : Picture → ℕ → ℕ
column_of P k = k % P.wide

-- its row
abbrev pub row_of : Picture → ℕ → ℕ
row_of P k = k / P.wide

-- the number of its row's token partition
abbrev pub partition_of : Picture → ℕ → ℕ
partition_of P k = pick_of (row_of P k) P.count

-- the planes of the lent memory
abbrev pub planes_in : Memory → Planes
planes_in m = planes_of m.y m.u m.v

-- where it is painted
abbrev pub place_of : Picture → ℕ → Place
place_of P k = record { column = column_of P k; row = row_of P k; width = P.wide * 16 }

-- its two readers: the first partition's and its token partition's
abbrev pub readers_at : State → (q : ℕ) → Readers
readers_at S q = record { first = S.reader; token = get_or S.readers q no_reader_of }

-- the contexts that it finds: its column's record, and what lies to the left
abbrev pub around_at : Picture → State → (column : ℕ) → Around
around_at P S column = record { top = column_at P.form S.mem.columns column; left = beside_of column S.left }

-- macroblock k made of the state that it finds
unfoldable pub step_at : Picture → ℕ → State → Step
step_at P k S =
    let q = partition_of P k in
    step_of P.first (P.token q) (readers_at S q) P.frame P.table (around_at P S (column_of P k)) (place_of P k) (planes_in S.mem)

-- what a finished macroblock writes: its samples, its column's record, its mode record, its strengths with the segment and the kind that the
-- mode record has (M-106)
abbrev pub written : Form → (k column : ℕ) → Memory → Finished → Memory
written form k column m x = record {
  y = x.planes.y;
  u = x.planes.u;
  v = x.planes.v;
  columns = column_set form m.columns column x.top;
  modes = mode_set m.modes k (kinds_of x.modes) x.modes.modes;
  strengths = strength_set m.strengths k x.strength (kinds_of x.modes);
}

-- the state that a finished macroblock leaves to the next
abbrev pub next_of : Picture → ℕ → State → Finished → State
next_of P k S x = record {
  reader = x.readers.first;
  readers = set S.readers (partition_of P k) x.readers.token;
  left = x.left;
  mem = written P.form k (column_of P k) S.mem x;
}

-- ---- the answer, with the lent memory
pub record Ended : Type 0 where
  pub answer : Decoded
  pub mem : Memory

-- the two as one
abbrev pub ended_of : Decoded → Memory → Ended
ended_of answer mem = record { answer = answer; mem = mem }

-- n macroblocks from number k on (modes section 19.3, 7239-7272, tokens 7316-7352), until one is refused: modes that run out (6), tokens that run
-- out (7)
unfoldable pub run_of : ℕ → Picture → ℕ → State → Ended
run_of zero P k S = record { answer = Ok k; mem = S.mem }
run_of (suc n) P k S =
    elim (step_at P k S) [
      | finished x ↦ run_of n P (k + 1) (next_of P k S x)
      | no_modes ↦ record { answer = Err (Stop.NoModes k); mem = S.mem }
      | no_tokens ↦ record { answer = Err (Stop.NoTokens k); mem = S.mem }
    ]

-- ---- THE CALL: a bad argument is refused by number (1 to 5) and nothing lent changes; else the macroblocks from blank memory
unfoldable pub picture_of : Call → Memory → Ended
picture_of c m =
    elim (refusal_of c (sizes_of m)) [
      | zero ↦ run_of (blocks_of c.tile.width c.tile.height) (pictured_of c) 0 (begun_of c m)
      | suc n ↦ record { answer = Err (Stop.Refused (named (suc n))); mem = m }
    ]

-- ==== One macroblock as the loops take it: its answer, what it leaves to its right, and the lent memory after it.

-- a macroblock in its place: how it ended, what lies to the left of the next, the lent memory
pub record Turned : Type 0 where
  pub answer : Finish
  pub left : Context
  pub mem : Memory

-- the three as one
abbrev pub turned_of : Finish → Context → Memory → Turned
turned_of answer left mem = record { answer = answer; left = left; mem = mem }

-- where a byte is missing nothing is written
abbrev pub turned : Form → Context → (k column : ℕ) → Memory → Step → Turned
turned form left k column m (finished x) = record { answer = Ok x.readers; left = x.left; mem = written form k column m x }
turned form left k column m no_modes = record { answer = Err F.NoModes; left = left; mem = m }
turned form left k column m no_tokens = record { answer = Err F.NoTokens; left = left; mem = m }

-- there is a record for column `column`, and for macroblock k
pub record Room (form : Form) (column k : ℕ) (c m s : List ℕ) : Type 0 where
  pub columns : column < records_in (form_width form) c
  pub modes : k < records_in mode_width m
  pub strengths : k < records_in strength_width s

-- ==== What is in range all through a picture: what its macroblocks share, and what each finds and leaves.

-- ---- what the macroblocks share is in range
pub record Shared (P : Picture) : Type 0 where
  pub least : 1 ≤ P.count
  pub most : P.count ≤ 8
  pub size : length P.table ≡ probability_count
  pub bytes : Bytes P.table
  pub sound : Sound P.frame
  pub wide : P.wide ≤ 1024
  pub high : P.high ≤ 1024

-- ---- what every macroblock finds, and leaves: readers in range, contexts in range, memory of the right lengths
pub record Live (P : Picture) (S : State) : Type 0 where
  pub reader : Valid P.first S.reader
  pub eight : length S.readers ≡ 8
  pub tokens : (q : ℕ) → q < P.count → Valid (P.token q) (get_or S.readers q no_reader_of)
  pub left : context_fine_of S.left ≡ true
  pub beside : Shaped S.left
  pub contexts : Columns P.form S.mem.columns
  pub y : length S.mem.y ≡ P.high * 16 * (P.wide * 16)
  pub u : length S.mem.u ≡ P.high * 8 * (P.wide * 16 / 2)
  pub v : length S.mem.v ≡ P.high * 8 * (P.wide * 16 / 2)
  pub columns : length S.mem.columns ≡ form_width P.form * P.wide
  pub modes : length S.mem.modes ≡ mode_width * (P.wide * P.high)
  pub strengths : length S.mem.strengths ≡ strength_width * (P.wide * P.high)

-- ==== How much a picture costs (M-103): the symbols that its macroblocks read from the first partition and from the token partitions, with
-- those of a refused macroblock before the symbol that is missing.

-- both added up
abbrev pub plus : SymbolCounts → SymbolCounts → SymbolCounts
plus a b = record { first = a.first + b.first; tokens = a.tokens + b.tokens }

-- the symbols that macroblock k reads
unfoldable pub reads_at : Picture → ℕ → State → SymbolCounts
reads_at P k S =
    let q = partition_of P k in
    reads_of P.first (P.token q) (readers_at S q) P.frame P.table (around_at P S (column_of P k))

-- n macroblocks from number k on, until one is refused, and that one too
unfoldable pub reads_from : ℕ → Picture → ℕ → State → SymbolCounts
reads_from zero P k S = no_reads
reads_from (suc n) P k S =
    elim (step_at P k S) [
      | finished x ↦ plus (reads_at P k S) (reads_from n P (k + 1) (next_of P k S x))
      | no_modes ↦ reads_at P k S
      | no_tokens ↦ reads_at P k S
    ]

-- THE CALL: nothing is read where an argument is refused (1 to 5)
unfoldable pub cost_of : Call → Memory → SymbolCounts
cost_of c m =
    elim (refusal_of c (sizes_of m)) [
      | zero ↦ reads_from (blocks_of c.tile.width c.tile.height) (pictured_of c) 0 (begun_of c m)
      | suc n ↦ no_reads
    ]

-- the macroblocks that were read: those finished and, after 6 or 7, one more
abbrev pub asked_of : Decoded → ℕ
asked_of (Ok k) = k
asked_of (Err (Stop.Refused n)) = 0
asked_of (Err (Stop.NoModes k)) = suc k
asked_of (Err (Stop.NoTokens k)) = suc k
