-- The calls as C sees them, a number and what is lent.
use Rattle.std.specs.Prelude.{◌&&◌}
use Rattle.numbers.specs.Words.{ℕ, true, false, eqb, List, length, ℤ, zero, suc, get_or, replicate}
use Rattle.macroblock.specs.declared.arguments.SymbolCounts.{SymbolCounts}
use Rattle.lent.specs.Memory.{Memory}
use Rattle.choices.specs.Choices.{Call, call_of, number_of, values_of}
use Rattle.picture.specs.Picture.{Ended, picture_of, cost_of}
use Rattle.boundary.specs.TileNumbers.{tile_of_numbers, numbers_of_tile, shown_of_numbers}
use Rattle.key_frame.specs.KeyFrame.{KeyFramed, key_frame_of}
use Rattle.boundary.specs.FrameCalls.{tile_after}
use Rattle.rescue.specs.Rescue.{RescueEnded, rescue_of, rescue_number_of, saved_count_of}
use Rattle.profile.specs.Profile.{ProfileEnded, profile_of, profile_rule_of, profile_block_of, profile_number_of}
use Rattle.survey.specs.Survey.{SurveyEnded, survey_of}
use Rattle.recode.specs.declared.Recoded.{Recoded}
use Rattle.recode.specs.Recode.{RecodeEnded, recode_of}

-- ==== The calls as C sees them: a number, the macroblocks finished, the symbols read, the lent memory.

-- what `hookbarley_decode` leaves: its number, k, the symbols read (M-103), the lent memory
pub record PictureCalled : Type 0 where
  pub number : ℕ
  pub finished : ℕ
  pub reads : SymbolCounts
  pub mem : Memory

-- the picture call's answer and its counts, as C sees them
abbrev pub to_picture_called : Ended → SymbolCounts → PictureCalled
to_picture_called e reads = record { number = number_of e.answer; finished = values_of e.answer; reads = reads; mem = e.mem }

-- the five put together
abbrev pub called_numbers : (number finished first tokens : ℕ) → Memory → PictureCalled
called_numbers number finished first tokens mem = record { number = number; finished = finished; reads = record { first = first; tokens = tokens }; mem = mem }

-- the picture call that bytes, entries and the numbers of a tile make
abbrev pub handed_call : List ℕ → List ℤ → List ℕ → Call
handed_call bytes header tile = call_of bytes (tile_of_numbers tile) header

-- `hookbarley_decode`: 28 numbers, else 9 and nothing changed
unfoldable pub called_of : List ℕ → List ℤ → List ℕ → Memory → PictureCalled
called_of bytes header tile m =
    let c = handed_call bytes header tile in
    elim (eqb (length tile) 28) [ true ↦ to_picture_called (picture_of c m) (cost_of c m) | false ↦ called_numbers 9 0 0 0 m ]

-- ==== The call from a key frame's bytes to the screen as C sees it: a number, the macroblocks finished, the symbols read, the entries, the 28 numbers of
-- a tile, the lent memory.

-- what `hookbarley_key_frame` leaves
pub record ShowCalled : Type 0 where
  pub number : ℕ
  pub finished : ℕ
  pub reads : SymbolCounts
  pub header : List ℤ
  pub tile : List ℕ
  pub mem : Memory

-- the seven put together
abbrev pub shown_numbers : (number finished first tokens : ℕ) → List ℤ → List ℕ → Memory → ShowCalled
shown_numbers number finished first tokens header tile mem =
    record { number = number; finished = finished; reads = record { first = first; tokens = tokens }; header = header; tile = tile; mem = mem }

-- what is shown of a frame, as C sees it
abbrev pub to_show_called : List ℕ → KeyFramed → ShowCalled
to_show_called tile k =
    record {
      number = k.answer.number;
      finished = k.answer.finished;
      reads = k.answer.reads;
      header = k.header;
      tile = tile_after tile k.answer.taken;
      mem = k.mem;
    }

-- `hookbarley_key_frame`: 28 numbers, else 9 and nothing changed
unfoldable pub show_called_of : List ℕ → List ℤ → List ℕ → Memory → ShowCalled
show_called_of b header tile m =
    elim (eqb (length tile) 28) [ true ↦ to_show_called tile (key_frame_of b header m) | false ↦ shown_numbers 9 0 0 0 header tile m ]

-- ==== The rescue call as C sees it (request M-108): a number, the macroblocks marked 0 or 1, the lent memory, the marks.

-- what `hookbarley_rescue` leaves
pub record RescueCalled : Type 0 where
  pub number : ℕ
  pub kept : ℕ
  pub mem : Memory
  pub marks : List ℕ

-- the four put together
abbrev pub rescue_numbers : (number kept : ℕ) → Memory → List ℕ → RescueCalled
rescue_numbers number kept mem marks = record { number = number; kept = kept; mem = mem; marks = marks }

-- the rescue call's answer, as C sees it
abbrev pub to_rescue_called : RescueEnded → RescueCalled
to_rescue_called e = rescue_numbers (rescue_number_of e.answer) (saved_count_of e.answer) e.mem e.marks

-- `hookbarley_rescue`: 28 numbers, else 9 and nothing changed
unfoldable pub rescue_called_of : List ℕ → List ℤ → List ℕ → Memory → (marks : List ℕ) → RescueCalled
rescue_called_of bytes header tile m marks =
    elim (eqb (length tile) 28) [ true ↦ to_rescue_called (rescue_of (handed_call bytes header tile) m marks) | false ↦ rescue_numbers 9 0 m marks ]

-- ==== The cockpit profile as C sees it (request M-111): a number, the rule that fails, the macroblock that it names, the lent memory.

-- what `hookbarley_profile` leaves
pub record ProfileCalled : Type 0 where
  pub number : ℕ
  pub rule : ℕ
  pub macroblock : ℕ
  pub mem : Memory

-- the four put together
abbrev pub profile_numbers : (number rule macroblock : ℕ) → Memory → ProfileCalled
profile_numbers number rule macroblock mem = record { number = number; rule = rule; macroblock = macroblock; mem = mem }

-- the profile's answer, as C sees it
abbrev pub to_profile_called : ProfileEnded → ProfileCalled
to_profile_called e = profile_numbers (profile_number_of e.answer) (profile_rule_of e.answer) (profile_block_of e.answer) e.mem

-- `hookbarley_profile`: 28 numbers, else 9 and nothing changed
unfoldable pub profile_called_of : List ℕ → List ℤ → List ℕ → Memory → ProfileCalled
profile_called_of bytes header tile m =
    elim (eqb (length tile) 28) [ true ↦ to_profile_called (profile_of (handed_call bytes header tile) m) | false ↦ profile_numbers 9 0 0 m ]

-- ==== The survey call as C sees it (request M-110): what the picture call leaves there, and the record. `hookbarley_survey_add` is `add_of`.

-- what `hookbarley_survey` leaves
pub record SurveyCalled : Type 0 where
  pub called : PictureCalled
  pub counts : List ℕ

-- the two put together
abbrev pub survey_numbers : PictureCalled → List ℕ → SurveyCalled
survey_numbers called counts = record { called = called; counts = counts }

-- the survey call's answer, as C sees it
abbrev pub to_survey_called : SurveyEnded → SurveyCalled
to_survey_called e = let a = e.answer in survey_numbers (record { number = a.number; finished = a.finished; reads = a.reads; mem = e.mem }) e.counts

-- `hookbarley_survey`: 28 numbers, else 9 and nothing changed
unfoldable pub survey_called_of : List ℕ → List ℤ → List ℕ → Memory → (counts : List ℕ) → SurveyCalled
survey_called_of bytes header tile m counts =
    elim (eqb (length tile) 28) [ true ↦ to_survey_called (survey_of (handed_call bytes header tile) m counts) | false ↦ survey_numbers (called_numbers 9 0 0 0 m) counts ]

-- ==== The recode call as C sees it (request M-112): a number, the lent memory, the room, and the 28 numbers of the tile that was written.

-- the tile that was written, with the true sizes and the filter kind of the tile that was read; after a refusal 28 zeros
unfoldable pub result_of : (tile : List ℕ) → Recoded → List ℕ
result_of tile r = elim r.number [ zero ↦ numbers_of_tile r.tile (shown_of_numbers tile) (get_or tile 4 0) | suc n ↦ replicate 28 0 ]

-- what `hookbarley_recode` leaves
pub record RecodeCalled : Type 0 where
  pub number : ℕ
  pub mem : Memory
  pub out : List ℕ
  pub result : List ℕ

-- the four put together
abbrev pub recode_numbers : (number : ℕ) → Memory → (out result : List ℕ) → RecodeCalled
recode_numbers number mem out result = record { number = number; mem = mem; out = out; result = result }

-- the recode call's answer, as C sees it
abbrev pub to_recode_called : (tile : List ℕ) → RecodeEnded → RecodeCalled
to_recode_called tile e = recode_numbers e.answer.number e.mem e.out (result_of tile e.answer)

-- `hookbarley_recode`: 28 numbers and room for 28, else 9 and nothing changed
unfoldable pub recode_called_of : List ℕ → List ℤ → (tile : List ℕ) → Memory → (out result : List ℕ) → RecodeCalled
recode_called_of bytes header tile m out result =
    elim (eqb (length tile) 28 && eqb (length result) 28) [
      | true ↦ to_recode_called tile (recode_of (handed_call bytes header tile) m out)
      | false ↦ recode_numbers 9 m out result
    ]
