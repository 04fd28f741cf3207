-- From a key frame's bytes to the picture on the screen (RFC 6386): three definitions one after the other. The header is taken (`taken_of`, sections
-- 9 and 19.2), the picture decoded (`picture_of`, sections 11 to 14), and deblocked (`deblock_of`, section 15) unless the frame's level is 0.
use Rattle.numbers.specs.Words.{ℕ, zero, suc, true, false, List, ℤ}
use Rattle.header.specs.Header.{frame_level, present_at_of}
use Rattle.lent.specs.Memory.{Memory, memory_of, sizes_of}
use Rattle.macroblock.specs.declared.arguments.SymbolCounts.{SymbolCounts}
use Rattle.macroblock.specs.Macroblock.{Planes}
use Rattle.choices.specs.Choices.{Call, call_of, refusal_of, number_of, values_of}
use Rattle.picture.specs.Picture.{Ended, picture_of, planes_in, cost_of}
use Rattle.deblock.specs.Deblock.{deblock_of}
use Rattle.frame.specs.declared.take.Answer.{Answer}
use Rattle.frame.specs.Take.{refused_answer, taken_of, into_of}
use Rattle.key_frame.specs.declared.Shown.{Shown}

-- what the picture call is given of a frame: its bytes, tile and entries
abbrev pub frame_call : List ℕ → Call
frame_call b = call_of b (taken_of b).answer.tile (taken_of b).header

-- ---- the loop filter of a frame (section 15, 4690-4693)
-- the planes deblocked by the header's kind; where the frame's level, loop_filter_level, is 0, the filter is off and they stay
unfoldable pub frame_planes : List ℤ → Answer → (strengths : List ℕ) → Planes → Planes
frame_planes header a strengths d =
    elim (present_at_of header frame_level) [
      | true ↦ (deblock_of d strengths a.tile.width a.tile.height a.simple).planes
      | false ↦ d
    ]

-- memory with these planes
abbrev pub with_planes : Memory → Planes → Memory
with_planes m d = memory_of d.y d.u d.v m.columns m.modes m.strengths

-- memory after a frame's loop filter: only planes change
abbrev pub frame_filtered : List ℤ → Answer → Memory → Memory
frame_filtered header a m = with_planes m (frame_planes header a m.strengths (planes_in m))

-- ---- what is answered, with the lent memory
pub record Framed : Type 0 where
  pub answer : Shown
  pub mem : Memory

-- the two as one
abbrev pub framed : Shown → Memory → Framed
framed answer mem = record { answer = answer; mem = mem }

-- the same with the lent entries
pub record KeyFramed : Type 0 where
  pub answer : Shown
  pub header : List ℤ
  pub mem : Memory

-- the three as one
abbrev pub key_framed : Shown → List ℤ → Memory → KeyFramed
key_framed answer header mem = record { answer = answer; header = header; mem = mem }

-- a refusal: its number, and all other numbers zero
abbrev pub refused_shown : ℕ → Shown
refused_shown n = record { number = n; finished = 0; reads = record { first = 0; tokens = 0 }; taken = refused_answer n }

-- the picture call's answer and counts, with what was taken
abbrev pub shown_of : Ended → SymbolCounts → Answer → Shown
shown_of e reads a = record { number = number_of e.answer; finished = values_of e.answer; reads = reads; taken = a }

-- the picture of these bytes, tile and entries, deblocked
abbrev pub frame_shown : List ℕ → Answer → List ℤ → Memory → Framed
frame_shown b a header m =
    let c = call_of b a.tile header in
    framed (shown_of (picture_of c m) (cost_of c m) a) (frame_filtered header a (picture_of c m).mem)

-- a frame that is taken, in memory of the lengths that its size asks
abbrev pub shown_frame : List ℕ → Memory → KeyFramed
shown_frame b m =
    let f = frame_shown b (taken_of b).answer (taken_of b).header m in
    key_framed f.answer (taken_of b).header f.mem

-- THE CALL: 9 where there are not 1096 entries, 12 to 14 where the header is not taken, 4 where a lent length is not what the frame's size asks: nothing
-- lent changes. Else the picture, deblocked: 0, 6 or 7
unfoldable pub key_frame_of : List ℕ → (header : List ℤ) → Memory → KeyFramed
key_frame_of b header m =
    elim (into_of b header).answer.number [
      | suc n ↦ key_framed (refused_shown (suc n)) header m
      | zero ↦ elim (refusal_of (frame_call b) (sizes_of m)) [
        | suc n ↦ key_framed (refused_shown (suc n)) header m
        | zero ↦ shown_frame b m
      ]
    ]
