-- What a pilot is promised of the picture on the screen: of `key_frame_of`, which the contract of `key_frame` equals (crates/key_frame/specs/KeyFrame.antt).
-- Every frame's bytes with any lent memory end in an answer; the picture is the three definitions one after the other; damage in token partition p
-- cannot change it above row p, but for the lowest three sample rows of row p-1; an unfinished macroblock is 128; old memory does not matter.
-- KeyFrameLaws proves it: `key_frame_ends`, `key_frame_shows`, `key_frame_isolated`, `key_frame_damaged`, `cut_frames`, `old_memory_shown_the_same`.
use Rattle.std.specs.Prelude.{◌+◌, ◌*◌, ◌/◌, ◌≤◌, ◌<◌, ◌≡◌, ◌⊎◌}
use Rattle.numbers.specs.Words.{ℕ, List, length, get_or, ℤ, pos}
use Rattle.header.specs.Header.{frame_level, entry}
use Rattle.tile.specs.declared.Tile.{Tile}
use Rattle.tile.specs.Tile.{span_at_of}
use Rattle.lent.specs.Memory.{Memory, sizes_of, packed, mode_width, strength_width, Sized}
use Rattle.choices.specs.Choices.{number_of, values_of}
use Rattle.picture.specs.Picture.{picture_of, planes_in, cost_of}
use Rattle.frame.specs.Take.{taken_of}
use Rattle.frame.specs.Passes.{unplaced}
use Rattle.deblock.specs.Deblock.{deblock_of}
use Rattle.key_frame.specs.KeyFrame.{frame_call, KeyFramed, key_framed, refused_shown, with_planes, key_frame_of}
use Rattle.promises.specs.Places.{Plane, plane_side, sample_of, mode_byte, strength_byte, block_at}
use Rattle.promises.specs.Grey.{InPlane}
use Rattle.promises.specs.Isolation.{SameTokens}

-- the tile that a frame's header gives
abbrev pub frame_tile : List ℕ → Tile
frame_tile b = (taken_of b).answer.tile

-- a frame is shown: 1096 entries are lent, the header is taken, and lent memory has the lengths that the frame's size asks
pub record Shows (b : List ℕ) (old : List ℤ) (m : Memory) : Type 0 where
  pub entries : length old ≡ 1096
  pub taken : (taken_of b).answer.number ≡ 0
  pub sized : Sized packed (frame_tile b).width (frame_tile b).height (sizes_of m)

-- EVERY FRAME ENDS IN AN ANSWER: each refusal exactly where it must be, with nothing changed; else 0, 6 or 7
pub record KeyFrameEnds (b : List ℕ) (old : List ℤ) (m : Memory) : Type 0 where
  -- 9: not 1096 entries are lent
  pub nine : (length old ≡ 1096 → ⊥) → key_frame_of b old m ≡ key_framed (refused_shown 9) old m
  -- 12, 13, 14: the header is not taken
  pub untaken : length old ≡ 1096 → ((taken_of b).answer.number ≡ 0 → ⊥) → key_frame_of b old m ≡ key_framed (refused_shown (taken_of b).answer.number) old m
  pub numbers : ((taken_of b).answer.number ≡ 0) ⊎ ((taken_of b).answer.number ≡ 12) ⊎ ((taken_of b).answer.number ≡ 13) ⊎ ((taken_of b).answer.number ≡ 14)
  -- 4: a lent length is not what the frame's size asks
  pub four : length old ≡ 1096 → (taken_of b).answer.number ≡ 0 → (Sized packed (frame_tile b).width (frame_tile b).height (sizes_of m) → ⊥) → key_frame_of b old m ≡ key_framed (refused_shown 4) old m
  -- else 0, 6 or 7
  pub shown : Shows b old m → ((key_frame_of b old m).answer.number ≡ 0) ⊎ ((key_frame_of b old m).answer.number ≡ 6) ⊎ ((key_frame_of b old m).answer.number ≡ 7)

-- WHAT IS SHOWN, E, of a frame that is: the header, the picture, the loop filter, one after the other; and what is not finished is 128
pub record KeyFrameShows (b : List ℕ) (m : Memory) (E : KeyFramed) : Type 0 where
  -- the answer: the picture call's number, macroblocks and counts, and what was taken; the entries are the header's
  pub number : E.answer.number ≡ number_of (picture_of (frame_call b) m).answer
  pub finished : E.answer.finished ≡ values_of (picture_of (frame_call b) m).answer
  pub reads : E.answer.reads ≡ cost_of (frame_call b) m
  pub taken : E.answer.taken ≡ (taken_of b).answer
  pub header : E.header ≡ (taken_of b).header
  -- a level of 0: the picture as it was decoded
  pub plain : entry (taken_of b).header frame_level ≡ pos 0 → E.mem ≡ (picture_of (frame_call b) m).mem
  -- any other: the picture deblocked by the header's kind, all else as it was decoded
  pub deblocked : (entry (taken_of b).header frame_level ≡ pos 0 → ⊥) → let e = (picture_of (frame_call b) m).mem in
      E.mem ≡ with_planes e (deblock_of (planes_in e) e.strengths (frame_tile b).width (frame_tile b).height (taken_of b).answer.simple).planes
  -- a sample of a macroblock that is not finished is 128
  pub grey : (a : Plane) (x r : ℕ) → InPlane (frame_call b) a x r → E.answer.finished ≤ block_at ((frame_tile b).width / 16) a x r
      → sample_of ((frame_tile b).width / 16) a x r E.mem ≡ 128

-- two frames alike in all but token partition p, which may be longer or shorter and have other bytes, so that its size in the frame and the places of
-- those behind it may be others too: the same bytes up to the end of the first partition, and in every other token partition below the count
pub record AlikeFrames (p : ℕ) (b c : List ℕ) : Type 0 where
  pub head : (i : ℕ) → i < (frame_tile b).first.start + (frame_tile b).first.len → get_or b i 0 ≡ get_or c i 0
  pub tokens : (q : ℕ) → q < (frame_tile b).count → (q ≡ p → ⊥) → SameTokens (frame_call b) (frame_call c) q

-- so are two frames of one length, alike in all bytes but those of token partition p of the first
pub record DamagedFrames (p : ℕ) (b c : List ℕ) : Type 0 where
  pub below : p < (frame_tile b).count
  pub long : length b ≡ length c
  pub same : (i : ℕ) → (i < (span_at_of (frame_tile b) p).start) ⊎ ((span_at_of (frame_tile b) p).start + (span_at_of (frame_tile b) p).len ≤ i) → get_or b i 0 ≡ get_or c i 0

-- and a frame with another that has its bytes up to the last token partition, p, and from there on any number of any: one that was cut, for instance
pub record CutFrames (p : ℕ) (b c : List ℕ) : Type 0 where
  pub last : p + 1 ≡ (frame_tile b).count
  pub upto : (span_at_of (frame_tile b) p).start ≤ length c
  pub same : (i : ℕ) → i < (span_at_of (frame_tile b) p).start → get_or b i 0 ≡ get_or c i 0

-- what is shown, without where the token partitions lie
abbrev pub shown_unplaced : KeyFramed → KeyFramed
shown_unplaced E =
    let t = unplaced (record { answer = E.answer.taken; header = E.header }) in
    key_framed (record { number = E.answer.number; finished = E.answer.finished; reads = E.answer.reads; taken = t.answer }) t.header E.mem

-- ISOLATION, of what two such frames show: E of the first, F of the second, `wide` macroblocks to a row, `high` rows
pub record KeyFrameIsolated (p wide high : ℕ) (E F : KeyFramed) : Type 0 where
  -- the same header is taken, but for where the token partitions lie
  pub taken : (shown_unplaced E).answer.taken ≡ (shown_unplaced F).answer.taken
  pub header : E.header ≡ F.header
  -- the same samples in all macroblock rows above row p, but for the lowest three sample rows of row p-1
  pub samples : (a : Plane) (x r : ℕ) → x < wide * plane_side a → r + 3 < p * plane_side a → sample_of wide a x r E.mem ≡ sample_of wide a x r F.mem
  -- the same modes and strengths in all of them
  pub modes : (i : ℕ) → i < p * wide * mode_width → mode_byte i E.mem ≡ mode_byte i F.mem
  pub strengths : (i : ℕ) → i < p * wide * strength_width → strength_byte i E.mem ≡ strength_byte i F.mem
  -- a stop in those rows comes in both, at one macroblock with one number
  pub stops : E.answer.finished < p * wide → (F.answer.number ≡ E.answer.number) × (F.answer.finished ≡ E.answer.finished)
  pub stops_too : F.answer.finished < p * wide → (E.answer.number ≡ F.answer.number) × (E.answer.finished ≡ F.answer.finished)
  -- each macroblock finished in both has the same modes
  pub kinds : (k i : ℕ) → k < E.answer.finished → k < F.answer.finished → i < mode_width → mode_byte (k * mode_width + i) E.mem ≡ mode_byte (k * mode_width + i) F.mem
  -- if no row p exists, all agrees, but for where the token partitions lie
  pub no_row : high ≤ p → shown_unplaced E ≡ shown_unplaced F

-- where one length and all other bytes are the same too, the token partitions lie at the same places
pub record KeyFrameDamaged (p wide high : ℕ) (E F : KeyFramed) : Type 0 where
  pub isolated : KeyFrameIsolated p wide high E F
  pub taken : E.answer.taken ≡ F.answer.taken
  pub no_row : high ≤ p → E ≡ F
