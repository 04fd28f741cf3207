-- What the calls answer to C, as their code finds it.
use Rattle.std.specs.Prelude.{◌≡◌}
use Rattle.numbers.specs.Words.{ℕ, sym, ◌∙◌, ap₂, eq-eqb, ne_eqb, List, length, ℤ, ap, zero, suc, refl, get_or, replicate}
use Rattle.tile.specs.declared.Tile.{Tile}
use Rattle.lent.specs.Memory.{Memory}
use Rattle.choices.specs.Choices.{call_of, number_of, values_of, Decoded}
use Rattle.picture.specs.Picture.{ended_of, picture_of, cost_of}
use Rattle.macroblock.specs.declared.arguments.SymbolCounts.{SymbolCounts}
use Rattle.boundary.specs.TileNumbers.{tile_of_numbers, numbers_of_tile, put_of, FieldsFit, shown_of_numbers}
use Rattle.told.specs.Told.{counts_told, counts_of, rescue_told, rescue_told_of, profile_told, profile_told_of}
use Rattle.hookbarley.specs.Calls.{to_picture_called, called_numbers, handed_call, called_of, shown_numbers, to_show_called, show_called_of, rescue_numbers, to_rescue_called, rescue_called_of, profile_numbers, to_profile_called, profile_called_of, survey_numbers, to_survey_called, survey_called_of, result_of, recode_numbers, to_recode_called, recode_called_of}
use Rattle.key_frame.specs.declared.Shown.{Shown}
use Rattle.key_frame.specs.KeyFrame.{key_framed, key_frame_of}
use Rattle.boundary.specs.FrameCalls.{tile_after}
use Rattle.rescue.specs.Rescue.{Rescued, rescue_ended, rescue_of}
use Rattle.profile.specs.Profile.{Profiled, profiled, profile_of}
use Rattle.survey.specs.declared.Surveyed.{Surveyed}
use Rattle.survey.specs.Survey.{survey_ended, survey_of}
use Rattle.recode.specs.declared.Recoded.{Recoded}
use Rattle.recode.specs.Recode.{recode_ended, recode_of}
use Rattle.boundary.specs.TileNumbersLaws.{put_there, tile_back}

-- ==== What the calls answer, as their code finds it.

module _ (bytes : List ℕ) (header : List ℤ) (tile : List ℕ) (m : Memory) where
  pub called_refused : (length tile ≡ 28 → ⊥) → called_numbers 9 0 0 0 m ≡ called_of bytes header tile m
  unfolding called_of
  called_refused e = rw (ne_eqb _ _ e, called_of)

  pub called_picture : length tile ≡ 28 → let c = handed_call bytes header tile in called_of bytes header tile m ≡ to_picture_called (picture_of c m) (cost_of c m)
  unfolding called_of
  called_picture e = rw (eq-eqb _ _ e, called_of)

  -- as the code finds it, of the tile that it made of the numbers
  pub called_found : length tile ≡ 28 → {t : Tile} → t ≡ tile_of_numbers tile → {d : Decoded} {r : SymbolCounts} {q : Memory} → (ended_of d q ≡ picture_of (call_of bytes t header) m) × (r ≡ cost_of (call_of bytes t header) m)
      → {n k x a b : ℕ} → n ≡ number_of d → k ≡ values_of d → counts_told x a b ≡ counts_of k r → called_numbers n x a b q ≡ called_of bytes header tile m
  called_found e t {d} {r} {q} h f g c =
      (λ i. called_numbers (f i) (c i).finished (c i).first (c i).tokens q)
      ∙ (λ i. called_numbers (number_of d) (g i) r.first r.tokens q)
      ∙ ap₂ to_picture_called (h.0 ∙ (λ i. picture_of (call_of bytes (t i) header) m)) (h.1 ∙ (λ i. cost_of (call_of bytes (t i) header) m))
      ∙ sym (called_picture e)

-- ==== What the call from a key frame's bytes to the screen answers, as its code finds it.

module _ (b : List ℕ) (header : List ℤ) (tile : List ℕ) (m : Memory) where
  pub show_refused : (length tile ≡ 28 → ⊥) → shown_numbers 9 0 0 0 header tile m ≡ show_called_of b header tile m
  unfolding show_called_of
  show_refused e = rw (ne_eqb _ _ e, show_called_of)

  pub show_called : length tile ≡ 28 → show_called_of b header tile m ≡ to_show_called tile (key_frame_of b header m)
  unfolding show_called_of
  show_called e = rw (eq-eqb _ _ e, show_called_of)

  pub show_found : length tile ≡ 28 → {q : Shown} {h : List ℤ} {n : Memory} {l : List ℕ} → key_framed q h n ≡ key_frame_of b header m → l ≡ tile_after tile q.taken
      → {k x y : ℕ} → counts_told k x y ≡ counts_of q.finished q.reads → shown_numbers q.number k x y h l n ≡ show_called_of b header tile m
  show_found e {q} {h} {n} {l} f g c =
      (λ i. shown_numbers q.number (c i).finished (c i).first (c i).tokens h l n)
      ∙ ap (λ (l : List ℕ). shown_numbers q.number q.finished q.reads.first q.reads.tokens h l n) g ∙ ap (to_show_called tile) f ∙ sym (show_called e)

-- ==== What the rescue call answers to C, as its code finds it.

module _ (bytes : List ℕ) (header : List ℤ) (tile : List ℕ) (m : Memory) (marks : List ℕ) where
  pub rescue_called_refused : (length tile ≡ 28 → ⊥) → rescue_numbers 9 0 m marks ≡ rescue_called_of bytes header tile m marks
  unfolding rescue_called_of
  rescue_called_refused e = rw (ne_eqb _ _ e, rescue_called_of)

  pub rescue_called : length tile ≡ 28 → rescue_called_of bytes header tile m marks ≡ to_rescue_called (rescue_of (handed_call bytes header tile) m marks)
  unfolding rescue_called_of
  rescue_called e = rw (eq-eqb _ _ e, rescue_called_of)

  -- as the code finds it, of the tile that it made of the numbers
  pub rescue_called_found : length tile ≡ 28 → {t : Tile} → t ≡ tile_of_numbers tile → {x : Rescued} {q : Memory} {l : List ℕ} → rescue_ended x q l ≡ rescue_of (call_of bytes t header) m marks
      → {n k : ℕ} → rescue_told n k ≡ rescue_told_of x → rescue_numbers n k q l ≡ rescue_called_of bytes header tile m marks
  rescue_called_found e t {x} {q} {l} h f =
      (λ i. rescue_numbers (f i).number (f i).kept q l) ∙ ap to_rescue_called (h ∙ (λ i. rescue_of (call_of bytes (t i) header) m marks)) ∙ sym (rescue_called e)

-- ==== What the profile answers to C, as its code finds it.

module _ (bytes : List ℕ) (header : List ℤ) (tile : List ℕ) (m : Memory) where
  pub profile_called_refused : (length tile ≡ 28 → ⊥) → profile_numbers 9 0 0 m ≡ profile_called_of bytes header tile m
  unfolding profile_called_of
  profile_called_refused e = rw (ne_eqb _ _ e, profile_called_of)

  pub profile_called : length tile ≡ 28 → profile_called_of bytes header tile m ≡ to_profile_called (profile_of (handed_call bytes header tile) m)
  unfolding profile_called_of
  profile_called e = rw (eq-eqb _ _ e, profile_called_of)

  -- as the code finds it, of the tile that it made of the numbers
  pub profile_called_found : length tile ≡ 28 → {t : Tile} → t ≡ tile_of_numbers tile → {x : Profiled} {q : Memory} → profiled x q ≡ profile_of (call_of bytes t header) m
      → {n r k : ℕ} → profile_told n r k ≡ profile_told_of x → profile_numbers n r k q ≡ profile_called_of bytes header tile m
  profile_called_found e t {x} {q} h f =
      (λ i. profile_numbers (f i).number (f i).rule (f i).macroblock q) ∙ ap to_profile_called (h ∙ (λ i. profile_of (call_of bytes (t i) header) m)) ∙ sym (profile_called e)

-- ==== What the survey call answers to C, as its code finds it.

module _ (bytes : List ℕ) (header : List ℤ) (tile : List ℕ) (m : Memory) (counts : List ℕ) where
  pub survey_called_refused : (length tile ≡ 28 → ⊥) → survey_numbers (called_numbers 9 0 0 0 m) counts ≡ survey_called_of bytes header tile m counts
  unfolding survey_called_of
  survey_called_refused e = rw (ne_eqb _ _ e, survey_called_of)

  pub survey_called : length tile ≡ 28 → survey_called_of bytes header tile m counts ≡ to_survey_called (survey_of (handed_call bytes header tile) m counts)
  unfolding survey_called_of
  survey_called e = rw (eq-eqb _ _ e, survey_called_of)

  -- as the code finds it, of the tile that it made of the numbers
  pub survey_called_found : length tile ≡ 28 → {t : Tile} → t ≡ tile_of_numbers tile → {x : Surveyed} {q : Memory} {l : List ℕ} → survey_ended x q l ≡ survey_of (call_of bytes t header) m counts
      → {k a b : ℕ} → counts_told k a b ≡ counts_of x.finished x.reads → survey_numbers (called_numbers x.number k a b q) l ≡ survey_called_of bytes header tile m counts
  survey_called_found e t {x} {q} {l} h c = (λ i. survey_numbers (called_numbers x.number (c i).finished (c i).first (c i).tokens q) l) ∙ ap to_survey_called (h ∙ (λ i. survey_of (call_of bytes (t i) header) m counts)) ∙ sym (survey_called e)

-- ==== What the recode call answers to C, as its code finds it.

-- ---- the 28 numbers of the result
module _ (tile : List ℕ) (r : Recoded) where
  pub result_done : r.number ≡ 0 → result_of tile r ≡ numbers_of_tile r.tile (shown_of_numbers tile) (get_or tile 4 0)
  unfolding result_of
  result_done e = rw (e, result_of)

  pub result_refused : (r.number ≡ 0 → ⊥) → result_of tile r ≡ replicate 28 0
  unfolding result_of
  result_refused = go r.number refl
    where
      go : (n : ℕ) → r.number ≡ n → (n ≡ 0 → ⊥) → result_of tile r ≡ replicate 28 0
      go zero e h = absurd (h refl)
      go (suc n) e h = rw (e, result_of)

  pub result_length : r.number ≡ 0 → length (result_of tile r) ≡ 28
  result_length e = ap length (result_done e)

  -- `hookbarley_decode` takes them as the tile that was written
  pub result_back : r.number ≡ 0 → length r.tile.tokens ≡ 8 → FieldsFit r.tile.reader.range r.tile.reader.shifts r.tile.reader.window → tile_of_numbers (result_of tile r) ≡ r.tile
  result_back e l f = ap tile_of_numbers (result_done e) ∙ tile_back r.tile (shown_of_numbers tile) (get_or tile 4 0) l f

-- ---- the call
module _ (bytes : List ℕ) (header : List ℤ) (tile : List ℕ) (m : Memory) (out result : List ℕ) where
  pub recode_no_tile : (length tile ≡ 28 → ⊥) → recode_numbers 9 m out result ≡ recode_called_of bytes header tile m out result
  unfolding recode_called_of
  recode_no_tile e = rw (ne_eqb _ _ e, recode_called_of)

  pub recode_no_result : length tile ≡ 28 → (length result ≡ 28 → ⊥) → recode_numbers 9 m out result ≡ recode_called_of bytes header tile m out result
  unfolding recode_called_of
  recode_no_result e f = rw (eq-eqb _ _ e, ne_eqb _ _ f, recode_called_of)

  pub recode_called : length tile ≡ 28 → length result ≡ 28 → recode_called_of bytes header tile m out result ≡ to_recode_called tile (recode_of (handed_call bytes header tile) m out)
  unfolding recode_called_of
  recode_called e f = rw (eq-eqb _ _ e, eq-eqb _ _ f, recode_called_of)

  -- as the code finds it, of the tile that it made of the numbers
  pub recode_called_found : length tile ≡ 28 → length result ≡ 28 → {t : Tile} → t ≡ tile_of_numbers tile
      → {r : Recoded} {q : Memory} {o : List ℕ} → recode_ended r q o ≡ recode_of (call_of bytes t header) m out
      → {n l : List ℕ} → n ≡ result_of tile r → l ≡ put_of result n → recode_numbers r.number q o l ≡ recode_called_of bytes header tile m out result
  recode_called_found e f t {r} {q} {o} h g k =
      ap (recode_numbers r.number q o) (k ∙ put_there result _ f ∙ g) ∙ ap (to_recode_called tile) (h ∙ (λ i. recode_of (call_of bytes (t i) header) m out)) ∙ sym (recode_called e f)
