-- The memory that the caller lends: its parts, its records, its lengths.
use Rattle.std.specs.Prelude.{◌+◌, ◌*◌, ◌/◌, ◌<◌, ◌≡◌, ◌&&◌, ◌∷◌, ◌++◌}
use Rattle.numbers.specs.Words.{Ok, Err, Checked, ℕ, List, length, replicate, Bool, true, false, not, eqb, ltb, bit_of, [], get_or, build, listed, copied}
use Rattle.filter.specs.declared.strengths.Strength.{Strength}
use Rattle.filter.specs.Strengths.{strength_fine_of}
use Rattle.modes.specs.declared.answers.Kinds.{Kinds}
use Rattle.modes.specs.Modes.{each_below_of, context_fine_of}
use Rattle.modes.specs.declared.contexts.Context.{Context}
use Rattle.numbers.specs.declared.Refused.TheVariants as K
use Rattle.column.specs.Column.{packed_bytes, context_unpacked}
pub use Rattle.lent.specs.declared.columns.ColumnRecord.{ColumnRecord}
use Rattle.lent.specs.declared.macroblocks.ModeRecord.{ModeRecord}
pub use Rattle.lent.specs.declared.macroblocks.StrengthRecord.{StrengthRecord}
use Rattle.tile.specs.Tile.{sides_of, blocks_of}
pub use Rattle.lent.specs.declared.sizes.Sizes.{Sizes}

-- ==== The memory that the caller lends, and what it holds before the first macroblock.

-- the planes Y, U, V; the records of macroblock columns; the mode records and the strength records of macroblocks
pub record Memory : Type 0 where
  pub y : List ℕ
  pub u : List ℕ
  pub v : List ℕ
  pub columns : List ℕ
  pub modes : List ℕ
  pub strengths : List ℕ

-- all six together
abbrev pub memory_of : (y u v columns modes strengths : List ℕ) → Memory
memory_of y u v columns modes strengths = record { y = y; u = u; v = v; columns = columns; modes = modes; strengths = strengths }

-- how long each of them is
abbrev pub sizes_of : Memory → Sizes
sizes_of m = record { y = length m.y; u = length m.u; v = length m.v; columns = length m.columns; modes = length m.modes; strengths = length m.strengths }

-- as long as l, each element x
abbrev pub filled : List ℕ → ℕ → List ℕ
filled l x = replicate (length l) x

-- before the first macroblock: planes 128, the rest 0
abbrev pub blank_of : Memory → Memory
blank_of m = memory_of (filled m.y 128) (filled m.u 128) (filled m.v 128) (filled m.columns 0) (filled m.modes 0) (filled m.strengths 0)

-- ==== Lent memory as records: those of macroblock columns, the modes of macroblocks, their strengths. Nothing else says what stands where.

-- ---- records of `width` bytes, side by side
-- record i
unfoldable pub record_at : (width : ℕ) → List ℕ → ℕ → List ℕ
record_at width mem i = build width (λ j. get_or mem (i * width + j) 0)

-- the memory with record i written
unfoldable pub record_set : (width : ℕ) → List ℕ → ℕ → List ℕ → List ℕ
record_set width mem i bytes = copied mem (i * width) bytes 0 width

-- how many records lie wholly inside
abbrev pub records_in : (width : ℕ) → List ℕ → ℕ
records_in width mem = length mem / width

-- n bytes of a record, from its place `from` on
abbrev pub bytes_of : (from n : ℕ) → List ℕ → List ℕ
bytes_of from n b = listed n (λ j. get_or b (from + j) 0)

-- ---- what the calls answer
-- writing: refused, and nothing changed, where there is no such record, or what is to be written is not in range
pub record Written : Type 0 where
  pub answer : Checked
  pub mem : List ℕ

-- a record written, where there is one and what is written is in range
unfoldable pub record_written : (width : ℕ) → List ℕ → ℕ → (fine : Bool) → List ℕ → Written
record_written width mem i fine bytes =
    elim (ltb i (records_in width mem) && fine) [
      | true ↦ record { answer = Ok tt; mem = record_set width mem i bytes }
      | false ↦ record { answer = Err K.OutOfRange; mem = mem }
    ]

-- reading: refused, and zeros, where there is no such record
pub record FoundRecord : Type 0 where
  pub answer : Checked
  pub bytes : List ℕ

-- a record read, where there is one
unfoldable pub record_found : (width : ℕ) → List ℕ → ℕ → FoundRecord
record_found width mem i =
    elim (ltb i (records_in width mem)) [
      | true ↦ record { answer = Ok tt; bytes = record_at width mem i }
      | false ↦ record { answer = Err K.OutOfRange; bytes = replicate width 0 }
    ]

-- ---- a macroblock column: the context that the macroblock above leaves, four modes and nine flags, in one of two forms
-- the form of the call since request M-107, and the one before it
pub data Form : Type 0 where
  packed : Form
  old : Form

-- bytes of a column: four, in the old form thirteen
abbrev pub form_width : Form → ℕ
form_width packed = 4
form_width old = 13

-- the bytes of a context: packed, or before that four modes, then nine flags, a byte each
abbrev pub column_bytes : Form → Context → List ℕ
column_bytes packed c = packed_bytes c
column_bytes old c = c.modes ++ c.flags

-- the context that a column's bytes hold
abbrev pub context_in : Form → List ℕ → Context
context_in packed b = context_unpacked b
context_in old b = record { modes = bytes_of 0 4 b; flags = bytes_of 4 9 b }

-- the context of column x
abbrev pub column_at : Form → List ℕ → ℕ → Context
column_at form mem x = context_in form (record_at (form_width form) mem x)

-- the memory with the context of column x written
abbrev pub column_set : Form → List ℕ → ℕ → Context → List ℕ
column_set form mem x c = record_set (form_width form) mem x (column_bytes form c)

-- every context in the memory is in range
abbrev pub Columns : Form → List ℕ → Type 0
Columns form mem = (x : ℕ) → x < records_in (form_width form) mem → context_fine_of (column_at form mem x) ≡ true

-- bytes a column in the code's records
abbrev pub column_width : ℕ
column_width = form_width packed

-- `write_column`
abbrev pub column_written : List ℕ → ℕ → Context → Written
column_written mem x c = record_written column_width mem x (context_fine_of c) (column_bytes packed c)

-- `read_column`
abbrev pub column_found : List ℕ → ℕ → ColumnRecord
column_found mem x = record { answer = (record_found column_width mem x).answer; context = context_in packed (record_found column_width mem x).bytes }

-- ---- the modes of a macroblock, twenty bytes: segment, skip, small, the sixteen luma modes, chroma
abbrev pub mode_width : ℕ
mode_width = 20

-- the twenty bytes of a macroblock's modes
abbrev pub mode_record : Kinds → List ℕ → List ℕ
mode_record k modes = k.segment ∷ bit_of k.skip ∷ bit_of k.small ∷ (modes ++ (k.chroma ∷ []))

-- a flag is true where its byte is not 0
abbrev pub is_on : ℕ → Bool
is_on n = not (eqb n 0)

-- what twenty bytes hold besides luma modes
abbrev pub kinds_in : List ℕ → Kinds
kinds_in b = record { segment = get_or b 0 0; skip = is_on (get_or b 1 0); small = is_on (get_or b 2 0); chroma = get_or b 19 0 }

-- the sixteen luma modes that they hold
abbrev pub modes_in : List ℕ → List ℕ
modes_in b = bytes_of 3 16 b

-- those of macroblock i
abbrev pub kinds_at : List ℕ → ℕ → Kinds
kinds_at mem i = kinds_in (record_at mode_width mem i)

-- its luma modes
abbrev pub modes_at : List ℕ → ℕ → List ℕ
modes_at mem i = modes_in (record_at mode_width mem i)

-- the memory with the record of macroblock i written
abbrev pub mode_set : List ℕ → ℕ → Kinds → List ℕ → List ℕ
mode_set mem i k modes = record_set mode_width mem i (mode_record k modes)

-- a segment and a chroma mode below 4
abbrev pub kinds_fine_of : Kinds → Bool
kinds_fine_of k = ltb k.segment 4 && ltb k.chroma 4

-- `write_mode_record`
abbrev pub mode_written : List ℕ → ℕ → Kinds → List ℕ → Written
mode_written mem i k modes = record_written mode_width mem i (kinds_fine_of k && each_below_of 10 modes) (mode_record k modes)

-- `read_mode_record`: the modes of macroblock i; refused, and zeros, where there is none
abbrev pub mode_found : List ℕ → ℕ → ModeRecord
mode_found mem i = record { answer = (record_found mode_width mem i).answer; kinds = kinds_in (record_found mode_width mem i).bytes; modes = modes_in (record_found mode_width mem i).bytes }

-- ---- the strengths of a macroblock, six bytes: limit, inner, threshold, inside; then (M-106) its segment, and 1 if its modes are small
abbrev pub strength_width : ℕ
strength_width = 6

-- the six bytes of strengths and kinds
abbrev pub strength_record : Strength → Kinds → List ℕ
strength_record t k = t.limit ∷ t.inner ∷ t.threshold ∷ t.inside ∷ k.segment ∷ bit_of k.small ∷ []

-- the strengths that six bytes hold
abbrev pub strength_in : List ℕ → Strength
strength_in b = record { limit = get_or b 0 0; inner = get_or b 1 0; threshold = get_or b 2 0; inside = get_or b 3 0 }

-- the segment that they hold
abbrev pub segment_in : List ℕ → ℕ
segment_in b = get_or b 4 0

-- whether modes are small, as they say
abbrev pub small_in : List ℕ → Bool
small_in b = is_on (get_or b 5 0)

-- the strengths of macroblock i
abbrev pub strength_at_of : List ℕ → ℕ → Strength
strength_at_of mem i = strength_in (record_at strength_width mem i)

-- the memory with the strengths of macroblock i written
abbrev pub strength_set : List ℕ → ℕ → Strength → Kinds → List ℕ
strength_set mem i t k = record_set strength_width mem i (strength_record t k)

-- `write_strength`
abbrev pub strength_written : List ℕ → ℕ → Strength → Kinds → Written
strength_written mem i t k = record_written strength_width mem i (strength_fine_of t && ltb k.segment 4) (strength_record t k)

-- `read_strength`: the strengths of macroblock i; refused, and zeros, where there is none
abbrev pub strength_found : List ℕ → ℕ → StrengthRecord
strength_found mem i =
    let b = (record_found strength_width mem i).bytes in
    record { answer = (record_found strength_width mem i).answer; strength = strength_in b; segment = segment_in b; small = small_in b }

-- ==== Argument check 4: how long each lent memory is, for sides that check 1 passes; each as a test that computes, and all as facts (`Sized`).

-- a memory of n bytes is as long as it must be
unfoldable pub long_of : (w h n must : ℕ) → Bool
long_of w h n must = sides_of w h && eqb n must

-- samples: one a pixel of luma, one a two by two square of U and of V
abbrev pub luma_fine_of : (w h n : ℕ) → Bool
luma_fine_of w h n = long_of w h n (w * h)

-- U or V: a quarter of that
abbrev pub chroma_fine_of : (w h n : ℕ) → Bool
chroma_fine_of w h n = long_of w h n (w / 2 * (h / 2))

-- records: one a macroblock column, one a macroblock
abbrev pub columns_fine_of : Form → (w h n : ℕ) → Bool
columns_fine_of form w h n = long_of w h n (form_width form * (w / 16))

-- the modes
abbrev pub modes_fine_of : (w h n : ℕ) → Bool
modes_fine_of w h n = long_of w h n (mode_width * blocks_of w h)

-- the strengths
abbrev pub strengths_fine_of : (w h n : ℕ) → Bool
strengths_fine_of w h n = long_of w h n (strength_width * blocks_of w h)

-- all six lengths, columns in this form
unfoldable pub sizes_fine_of : Form → (w h : ℕ) → Sizes → Bool
sizes_fine_of form w h z =
    luma_fine_of w h z.y
    && chroma_fine_of w h z.u
    && chroma_fine_of w h z.v
    && columns_fine_of form w h z.columns
    && modes_fine_of w h z.modes
    && strengths_fine_of w h z.strengths

-- all six lengths, as a fact
pub record Sized (form : Form) (w h : ℕ) (z : Sizes) : Type 0 where
  pub y : z.y ≡ w * h
  pub u : z.u ≡ w / 2 * (h / 2)
  pub v : z.v ≡ w / 2 * (h / 2)
  pub columns : z.columns ≡ form_width form * (w / 16)
  pub modes : z.modes ≡ mode_width * blocks_of w h
  pub strengths : z.strengths ≡ strength_width * blocks_of w h
