-- RFC 9649, the simple file format (lossy): the file around one key frame, and the frame in a file. In a list of bytes a place past the
-- end reads 0; each test asks first that the bytes are there.
use Rattle.std.specs.Prelude.{◌+◌, ◌*◌, ◌/◌, ◌%◌, ◌&&◌, ◌||◌, ◌∷◌, ◌++◌}
use Rattle.numbers.specs.Words.{ℕ, Bool, true, false, eqb, leb, Option, Some, None, Result, Ok, Err, List, [], length, get_or, drop, replicate, byte_at}
pub use Rattle.webp.specs.declared.read.Found.{Found}
pub use Rattle.webp.specs.declared.read.FindError.{FindError}
pub use Rattle.webp.specs.declared.write.WrapError.{WrapError}
use Rattle.webp.specs.declared.read.FindError.TheVariants as F
use Rattle.webp.specs.declared.write.WrapError.TheVariants as W

-- ---- terminology and basics, before 2.3 RIFF file format: uint32, FourCC; then 2.3, the chunk
-- uint32: a 32-bit, little-endian, unsigned integer
unfoldable pub uint32_at : List ℕ → ℕ → ℕ
uint32_at s i = byte_at s i + 256 * byte_at s (i + 1) + 65536 * byte_at s (i + 2) + 16777216 * byte_at s (i + 3)

-- the four bytes of a number
abbrev pub uint32_of : ℕ → List ℕ
uint32_of n = n % 256 ∷ n / 256 % 256 ∷ n / 65536 % 256 ∷ n / 16777216 % 256 ∷ []

-- FourCC: four ASCII characters, 'RIFF', 'WEBP' and 'VP8 '
abbrev pub riff : List ℕ
riff = 82 ∷ 73 ∷ 70 ∷ 70 ∷ []

-- 'WEBP'
abbrev pub webp : List ℕ
webp = 87 ∷ 69 ∷ 66 ∷ 80 ∷ []

-- 'VP8 '
abbrev pub vp8 : List ℕ
vp8 = 86 ∷ 80 ∷ 56 ∷ 32 ∷ []

-- whether these four stand at place i
unfoldable pub four_cc_at : List ℕ → ℕ → List ℕ → Bool
four_cc_at s i c =
    leb (i + 4) (length s)
    && (eqb (byte_at s i) (get_or c 0 0) && eqb (byte_at s (i + 1)) (get_or c 1 0) && eqb (byte_at s (i + 2)) (get_or c 2 0) && eqb (byte_at s (i + 3)) (get_or c 3 0))

-- a chunk: its FourCC, the size of its payload, the payload, and one byte of 0 where that size is odd
abbrev pub pad_of : ℕ → List ℕ
pad_of size = replicate (size % 2) 0

-- a chunk's bytes
abbrev pub chunk_of : List ℕ → List ℕ → List ℕ
chunk_of kind payload = kind ++ uint32_of (length payload) ++ payload ++ pad_of (length payload)

-- ---- 2.4 WebP file header: 'RIFF', the size of what follows, 'WEBP', the chunks
-- the RIFF size around a frame of n bytes: 'WEBP' (4), the chunk's FourCC and size (8), its payload, its pad byte
abbrev pub riff_size : ℕ → ℕ
riff_size n = 12 + n + n % 2

-- and its most, 2^32 - 10
abbrev pub most_size : ℕ
most_size = 4294967286

-- ---- 2.5 Simple file format (lossy): one chunk, 'VP8 '
unfoldable pub file_of : List ℕ → List ℕ
file_of frame = riff ++ uint32_of (riff_size (length frame)) ++ webp ++ chunk_of vp8 frame

-- ---- the reader: four tests
-- 2.4: the marks
unfoldable pub marked_of : List ℕ → Bool
marked_of s = four_cc_at s 0 riff && four_cc_at s 8 webp

-- 2.4: the RIFF size counts what follows it, to the last byte
unfoldable pub sized_of : List ℕ → Bool
sized_of s = leb 8 (length s) && eqb (uint32_at s 4 + 8) (length s)

-- 2.5: the first chunk's kind
unfoldable pub lossy_of : List ℕ → Bool
lossy_of s = four_cc_at s 12 vp8

-- 2.3: the chunk with its pad byte ends where the bytes end, and a pad byte is 0
abbrev pub chunk_size : List ℕ → ℕ
chunk_size s = uint32_at s 16

-- the test
unfoldable pub filled_of : List ℕ → Bool
filled_of s =
    leb 20 (length s)
    && (eqb (20 + chunk_size s + chunk_size s % 2) (length s) && (eqb (chunk_size s % 2) 0 || eqb (byte_at s (20 + chunk_size s)) 0))

-- the first that fails gives its error
unfoldable pub find_refusal : (marked sized lossy filled : Bool) → Option FindError
find_refusal false sized lossy filled = Some F.NotWebp
find_refusal true false lossy filled = Some F.WrongSize
find_refusal true true false filled = Some F.NotLossy
find_refusal true true true false = Some F.WrongSize
find_refusal true true true true = None

-- the reader's error, if a test fails
abbrev pub found_refusal : List ℕ → Option FindError
found_refusal s = find_refusal (marked_of s) (sized_of s) (lossy_of s) (filled_of s)

-- a frame's place and length
abbrev pub found_at : ℕ → ℕ → Found
found_at start len = record { start = start; len = len }

-- THE READER: the frame is the chunk's payload
unfoldable pub find_of : List ℕ → Result Found FindError
find_of s = elim (found_refusal s) [ None ↦ Ok (found_at 20 (chunk_size s)) | Some e ↦ Err e ]

-- ---- the writer
pub record WriteEnded : Type 0 where
  pub answer : Result ℕ WrapError
  pub out : List ℕ

-- a file at the start of the room, what lies behind it unchanged; NoRoom, 16, where the room is too small
unfoldable pub written_into : List ℕ → List ℕ → WriteEnded
written_into file out =
    elim (leb (length file) (length out)) [
      | true ↦ record { answer = Ok (length file); out = file ++ drop (length file) out }
      | false ↦ record { answer = Err W.NoRoom; out = out }
    ]

-- THE WRITER; TooLong, 18, where the RIFF size would pass its most
unfoldable pub wrap_of : List ℕ → List ℕ → WriteEnded
wrap_of frame out =
    elim (leb (riff_size (length frame)) most_size) [
      | true ↦ written_into (file_of frame) out
      | false ↦ record { answer = Err W.TooLong; out = out }
    ]

-- ---- as numbers and values
-- the number of a refusal of the reader
abbrev pub find_error_number : FindError → ℕ
find_error_number F.NotWebp = 17
find_error_number F.WrongSize = 18
find_error_number F.NotLossy = 19

-- the reader's number; 0 where a frame is found
abbrev pub found_number_of : Result Found FindError → ℕ
found_number_of (Ok f) = 0
found_number_of (Err e) = find_error_number e

-- where the frame starts; 0 after a refusal
abbrev pub found_start_of : Result Found FindError → ℕ
found_start_of (Ok f) = f.start
found_start_of (Err e) = 0

-- how long it is; 0 after a refusal
abbrev pub found_length_of : Result Found FindError → ℕ
found_length_of (Ok f) = f.len
found_length_of (Err e) = 0

-- the number of a refusal of the writer
abbrev pub wrap_error_number : WrapError → ℕ
wrap_error_number W.NoRoom = 16
wrap_error_number W.TooLong = 18

-- the writer's number; 0 where a file is written
abbrev pub wrapped_number_of : Result ℕ WrapError → ℕ
wrapped_number_of (Ok n) = 0
wrapped_number_of (Err e) = wrap_error_number e

-- the bytes written; 0 after a refusal
abbrev pub wrapped_length_of : Result ℕ WrapError → ℕ
wrapped_length_of (Ok n) = n
wrapped_length_of (Err e) = 0
