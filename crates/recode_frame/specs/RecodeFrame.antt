-- A key frame written again with one token partition (RFC 6386): the first partition's symbols, header (section 19.2) and modes (19.3), encoded
-- anew (7.3) with the partition count 0; then the tokens in raster order in one partition (9.5); before them the tag (9.1) with the new
-- size, start code and sizes as they were.
use Rattle.std.specs.Prelude.{◌+◌, ◌*◌, ◌/◌, ◌%◌, ◌∷◌, ◌++◌}
use Rattle.numbers.specs.Words.{ℕ, zero, suc, true, false, leb, List, [], length, get_or, set, take, drop, replicate}
use Rattle.header.specs.declared.frame.Announced.{Announced}
use Rattle.header.specs.Frame.{announced_of}
use Rattle.lent.specs.Memory.{Memory}
use Rattle.modes.specs.Modes.{modes_of, bottom_of, right_of}
use Rattle.choices.specs.Choices.{Call, call_of, number_of}
use Rattle.picture.specs.Picture.{picture_of}
use Rattle.reader.specs.declared.boolean.Reader.{Reader}
use Rattle.reader.specs.Reading.{given, missing, first_reader, no_reader_of, Reading, done, ◌>>=◌, run, CodedSymbol, trace}
use Rattle.tile.specs.Tile.{blocks_of}
use Rattle.writer.specs.Encoder.{encode_of}
use Rattle.recode.specs.Recode.{first_of, one_partition}
use Rattle.frame.specs.declared.fields.Segments.{Segments}
use Rattle.frame.specs.declared.fields.Filter.{Filter}
use Rattle.frame.specs.declared.fields.QuantIndices.{QuantIndices}
use Rattle.frame.specs.Header.{literal, when, segments, filter, quantizers, probs}
use Rattle.frame.specs.Tag.{tag_of}
use Rattle.frame.specs.Take.{taken_of}
use Rattle.recode_frame.specs.declared.FrameRecoded.{FrameRecoded}

-- ---- the coded header, cut at the partition count (section 19.2, 6806-6854)
pub record BeforeCount : Type 0 where
  pub colour : ℕ
  pub clamping : ℕ
  pub segments : Segments
  pub filter : Filter

-- what stands before log2_nbr_of_dct_partitions (19.2, 6809-6818)
unfoldable pub before_count : Reading BeforeCount
before_count = do
  colour ← literal 1
  clamping ← literal 1
  segments ← segments
  filter ← filter
  done (record { colour = colour; clamping = clamping; segments = segments; filter = filter })

-- the fields behind it
pub record AfterCount : Type 0 where
  pub quantizers : QuantIndices
  pub refresh : ℕ
  pub probs : List ℕ
  pub skip : ℕ
  pub chance : ℕ

-- what stands behind it: quant_indices() to prob_skip_false (19.2, 6820-6822 and 6851-6854)
unfoldable pub after_count : Reading AfterCount
after_count = do
  quantizers ← quantizers
  refresh ← literal 1
  probs ← probs
  skip ← literal 1
  chance ← when skip 0 (literal 8)
  done (record { quantizers = quantizers; refresh = refresh; probs = probs; skip = skip; chance = chance })

-- ---- the symbols
-- the reader after a part; none where a byte was missing
unfoldable pub reader_after : {A : Type 0} → Reading A → List ℕ → Reader → Reader
reader_after m s r = elim (run m s r) [ given a q ↦ q | missing ↦ no_reader_of ]

-- log2_nbr_of_dct_partitions, two bits of probability 128, both 0: one partition (19.2, 6819; 9.5, 1991-2000)
abbrev pub no_count : List CodedSymbol
no_count = record { prob = 128; bit = false } ∷ record { prob = 128; bit = false } ∷ []

-- those of the coded header (19.2, 6806-6854), with the count 0
unfoldable pub header_symbols : List ℕ → List CodedSymbol
header_symbols s =
    let r = reader_after before_count s (first_reader s) in
    trace before_count s (first_reader s) ++ (no_count ++ trace after_count s (reader_after (literal 2) s r))

-- left of the first column there is nothing
abbrev pub left_of : ℕ → List ℕ → List ℕ
left_of zero left = replicate 4 0
left_of (suc column) left = left

-- the modes of n macroblocks from number k on, in raster order, `wide` in a row (section 19.3, 7239-7272); `tops` has the lowest modes above each column,
-- `left` the rightmost of the macroblock before
unfoldable pub modes_from : Announced → (wide n k : ℕ) → List (List ℕ) → List ℕ → Reading (Unit {0})
modes_from a wide zero k tops left = done tt
modes_from a wide (suc n) k tops left = do
  m ← modes_of a (get_or tops (k % wide) []) (left_of (k % wide) left)
  modes_from a wide n (k + 1) (set tops (k % wide) (bottom_of m.modes)) (right_of m.modes)

-- before the first: DC above and left; a row has at most 1024
abbrev pub no_tops : List (List ℕ)
no_tops = replicate 1024 (replicate 4 0)

-- all of a picture's
abbrev pub all_modes : Call → Reading (Unit {0})
all_modes c = modes_from (announced_of c.header) (c.tile.width / 16) (blocks_of c.tile.width c.tile.height) 0 no_tops (replicate 4 0)

-- ---- the bytes
-- the first partition: header, then modes
unfoldable pub new_first : Call → List ℕ
new_first c = encode_of (header_symbols (first_of c) ++ trace (all_modes c) (first_of c) c.tile.reader)

-- a number of three bytes, the lowest first
abbrev pub three_bytes : ℕ → List ℕ
three_bytes n = n % 256 ∷ n / 256 % 256 ∷ n / 65536 % 256 ∷ []

-- the ten bytes before the first partition, n bytes long: the tag's lowest five bits stay, its 19-bit size is new (9.1, 1666-1691); then start
-- code and sizes (9.1, 1719-1729)
abbrev pub new_head : List ℕ → ℕ → List ℕ
new_head b n = three_bytes (tag_of b % 32 + 32 * n) ++ take 7 (drop 3 b)

-- what the picture call takes of a frame
abbrev pub taken_call : List ℕ → Call
taken_call b = call_of b (taken_of b).answer.tile (taken_of b).header

-- the frame
abbrev pub recoded_frame : List ℕ → Memory → List ℕ
recoded_frame b m = new_head b (length (new_first (taken_call b))) ++ (new_first (taken_call b) ++ one_partition (taken_call b) m)

-- ---- the call: its answer, the lent memory, the room
pub record FrameEnded : Type 0 where
  pub answer : FrameRecoded
  pub mem : Memory
  pub out : List ℕ

-- the three as one
abbrev pub frame_ended : FrameRecoded → Memory → List ℕ → FrameEnded
frame_ended answer mem out = record { answer = answer; mem = mem; out = out }

-- the answer of a refusal: its number, no byte
abbrev pub no_frame : ℕ → FrameRecoded
no_frame n = record { number = n; len = 0 }

-- a refusal: the room unchanged
abbrev pub frame_refused : ℕ → Memory → List ℕ → FrameEnded
frame_refused n mem out = frame_ended (no_frame n) mem out

-- 18 where the tag cannot tell the first partition's size (9.1, 1690-1691: 19 bits); 16 where the frame exceeds the room; else the frame at its start
unfoldable pub frame_into : List ℕ → Memory → Memory → List ℕ → FrameEnded
frame_into b m mem out =
    elim (leb (length (new_first (taken_call b))) 524287) [
      | false ↦ frame_refused 18 mem out
      | true ↦ elim (leb (length (recoded_frame b m)) (length out)) [
        | false ↦ frame_refused 16 mem out
        | true ↦ frame_ended (record { number = 0; len = length (recoded_frame b m) }) mem (recoded_frame b m ++ drop (length (recoded_frame b m)) out)
      ]
    ]

-- the picture call, whose number comes back where it is not 0
unfoldable pub frame_decoded : List ℕ → Memory → List ℕ → FrameEnded
frame_decoded b m out =
    elim (number_of (picture_of (taken_call b) m).answer) [
      | zero ↦ frame_into b m (picture_of (taken_call b) m).mem out
      | suc n ↦ frame_refused (suc n) (picture_of (taken_call b) m).mem out
    ]

-- THE CALL: 12 to 14 as the header is refused, nothing changed; else the picture call, and the frame recoded
unfoldable pub recode_frame_of : List ℕ → Memory → List ℕ → FrameEnded
recode_frame_of b m out = elim (taken_of b).answer.number [ zero ↦ frame_decoded b m out | suc n ↦ frame_refused (suc n) m out ]
