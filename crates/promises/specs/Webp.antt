-- The simple lossy WebP file (RFC 9649): what was written is read, and what was read is written again, byte for byte. `wrap_of` and `find_of`
-- are the definitions that the calls' contracts equal (crates/webp/specs/Webp.antt).
use Rattle.std.specs.Prelude.{◌+◌, ◌≤◌, ◌<◌, ◌≡◌, ◌⊎◌, ◌++◌}
use Rattle.numbers.specs.Words.{ℕ, Ok, Err, arith, sym, List, length, take, drop, length-append, length-drop, drop_at, take_at}
use Rattle.reader.specs.Reading.{Bytes}
use Rattle.webp.specs.declared.write.WrapError.{WrapError}
use Rattle.webp.specs.declared.write.WrapError.TheVariants as W
use Rattle.webp.specs.Webp.{riff_size, most_size, file_of, found_at, find_of, wrap_of}
use Rattle.webp.specs.WriteLaws.{wrap_long, wrap_small, wrap_good, written, not_written}
use Rattle.webp.specs.WebpLaws.{file_found, file_frame, found, found_length, found_file}

-- ---- reading what the writer wrote: n bytes of the room, which is then `after`
pub record ReadBack (frame out : List ℕ) (n : ℕ) (after : List ℕ) : Type 0 where
  -- the frame's place and length, and what stands there
  pub place : find_of (take n after) ≡ Ok (found_at 20 (length frame))
  pub contents : take (length frame) (drop 20 (take n after)) ≡ frame
  -- the room is as long as it was, and behind the file it holds what it held
  pub long : length after ≡ length out
  pub behind : drop n after ≡ drop n out

-- THE PROMISE: reading what was written gives the frame back
pub read_what_was_written : (frame out : List ℕ) (n : ℕ) (after : List ℕ) → wrap_of frame out ≡ record { answer = Ok n; out = after } → ReadBack frame out n after
read_what_was_written frame out n after e =
    let w = written frame out e in
    let file : take n after ≡ file_of frame = rw w.holds (take_at (file_of frame) (drop n out) n (sym w.count)) in
    record {
      place = rw file (file_found frame w.short);
      contents = rw file (file_frame frame w.short);
      long = rw w.holds (omega (arith, length-append (file_of frame) (drop n out), length-drop n out, w.count, w.room));
      behind = rw w.holds (drop_at (file_of frame) (drop n out) n (sym w.count));
    }

-- ---- writing what was read: the frame of `bytes` into any room
pub record WrittenBack (bytes frame out : List ℕ) : Type 0 where
  -- the file, byte for byte, and behind it what the room held
  pub same : length bytes ≤ most_size + 8 → length bytes ≤ length out → wrap_of frame out ≡ record { answer = Ok (length bytes); out = bytes ++ drop (length bytes) out }
  -- a room too small
  pub small : length bytes ≤ most_size + 8 → length out < length bytes → wrap_of frame out ≡ record { answer = Err W.NoRoom; out = out }
  -- a file over 2^32 - 2 bytes: the reader takes four lengths of them, 2^32 to 2^32 + 6, and the writer none
  pub large : most_size + 8 < length bytes → wrap_of frame out ≡ record { answer = Err W.TooLong; out = out }

-- THE PROMISE: writing what was read gives the file back
pub written_what_was_read : (bytes out : List ℕ) (start len : ℕ) → Bytes bytes → find_of bytes ≡ Ok (found_at start len) → WrittenBack bytes (take len (drop start bytes)) out
written_what_was_read bytes out start len b e =
    let frame : List ℕ = take len (drop start bytes) in
    let l = found_length bytes e in
    let f : file_of frame ≡ bytes = found_file bytes e b in
    record {
      same = λ h k. rw (f, ← l) at (sym (wrap_good frame out (omega arith) (omega arith)));
      small = λ h k. sym (wrap_small frame out (omega arith) (omega arith));
      large = λ h. sym (wrap_long frame out (omega arith));
    }

-- ---- the frame that is found lies inside the bytes, and at most a pad byte stands behind it
pub record FrameInside (bytes : List ℕ) (start len : ℕ) : Type 0 where
  pub first : start ≡ 20
  pub ends : start + len ≤ length bytes
  pub pad : length bytes ≤ start + len + 1

pub found_inside : (bytes : List ℕ) (start len : ℕ) → find_of bytes ≡ Ok (found_at start len) → FrameInside bytes start len
found_inside bytes start len e =
    let p = found bytes e in
    record { first = p.first; ends = omega (arith, p.first, p.size, p.fits.ends); pad = omega (arith, p.first, p.size, p.fits.ends) }

-- ---- a refusal of the writer changes nothing, and has its reason: TooLong, 18, the RIFF size would pass 2^32 - 10; NoRoom,
-- 16, it would not, and the room is too small
pub record NotWritten (frame out : List ℕ) (e : WrapError) (after : List ℕ) : Type 0 where
  pub unchanged : after ≡ out
  pub why : ((e ≡ W.TooLong) × (most_size < riff_size (length frame))) ⊎ ((e ≡ W.NoRoom) × (riff_size (length frame) ≤ most_size) × (length out < length (file_of frame)))

pub refused_writes_nothing : (frame out : List ℕ) (e : WrapError) (after : List ℕ) → wrap_of frame out ≡ record { answer = Err e; out = after } → NotWritten frame out e after
refused_writes_nothing frame out e after h = let w = not_written frame out h in record { unchanged = w.same; why = w.why }
