-- What the call on a key frame's header answers, as its code finds it.
use Rattle.std.specs.Prelude.{◌≡◌}
use Rattle.numbers.specs.Words.{ℕ, zero, suc, arith, refl, sym, ◌∙◌, ap, ⊎_elim, eq-eqb, ne_eqb, bit_of, List, length, ℤ}
use Rattle.reader.specs.Reading.{Bytes}
use Rattle.frame.specs.declared.take.Answer.{Answer}
use Rattle.frame.specs.Take.{nothing_taken, taken_of, into_of}
use Rattle.frame.specs.PassesLaws.{tokens_eight, taken_is_fine, taken_or_refused}
use Rattle.boundary.specs.FrameCalls.{numbers_of, tile_after, to_frame_called, frame_called_of}
use Rattle.boundary.specs.TileNumbers.{numbers_of_tile, put_of, FieldsFit, tile_of_numbers}
use Rattle.boundary.specs.TileNumbersLaws.{put_there, valid_fits, tile_back}

-- what was taken, stored as 28 numbers
pub taken_put : (old : List ℕ) (a : Answer) {s : ℕ} {n l : List ℕ} → s ≡ bit_of a.simple → n ≡ numbers_of_tile a.tile a.shown s → l ≡ put_of old n → l ≡ put_of old (numbers_of a)
taken_put old a q g k = k ∙ ap (put_of old) (g ∙ ap (numbers_of_tile a.tile a.shown) q)

-- the tile after the call
pub tile_taken : (old : List ℕ) (a : Answer) → a.number ≡ 0 → {l : List ℕ} → l ≡ put_of old (numbers_of a) → l ≡ tile_after old a
unfolding tile_after
tile_taken old a e f = f ∙ rw (e, tile_after) refl

pub tile_kept : (old : List ℕ) (a : Answer) → (a.number ≡ 0 → ⊥) → old ≡ tile_after old a
unfolding tile_after
tile_kept old a n = go a.number refl n
  where
    go : (k : ℕ) → a.number ≡ k → (k ≡ 0 → ⊥) → old ≡ tile_after old a
    go zero e n = absurd (n refl)
    go (suc k) e n = rw (e, tile_after) refl

module _ (b : List ℕ) (header : List ℤ) (tile : List ℕ) where
  pub frame_refused_lem : (length tile ≡ 28 → ⊥) → record { number = 9; header = header; tile = tile } ≡ frame_called_of b header tile
  unfolding frame_called_of
  frame_refused_lem e = rw (ne_eqb _ _ e, frame_called_of)

  pub frame_called : length tile ≡ 28 → {a : Answer} {h : List ℤ} {l : List ℕ} → record { answer = a; header = h } ≡ into_of b header → l ≡ put_of tile (numbers_of a) → record { number = a.number; header = h; tile = l } ≡ frame_called_of b header tile
  unfolding frame_called_of
  frame_called e {a} {h} f k =
      let z : frame_called_of b header tile ≡ to_frame_called (into_of b header) = rw (eq-eqb _ _ e, frame_called_of) in
      ap (λ (l : List ℕ). record { number = a.number; header = h; tile = l }) (k ∙ put_there tile _ e) ∙ ap to_frame_called f ∙ sym z

-- ---- THE LAW: what the call returns, hookbarley_decode takes as the same tile
reader_fits : (b : List ℕ) → Bytes b → let r = (taken_of b).answer.tile.reader in FieldsFit r.range r.shifts r.window
unfolding nothing_taken
reader_fits b y =
    ⊎_elim
    (λ e. valid_fits (taken_is_fine b y e).cut.reader)
    (λ k. let z : FieldsFit 0 0 0 = record { range = omega arith; shifts = omega arith; window = omega arith } in rw k.zeros z)
    (taken_or_refused b)

pub handed_over : (b : List ℕ) → Bytes b → tile_of_numbers (numbers_of (taken_of b).answer) ≡ (taken_of b).answer.tile
handed_over b y = let a : Answer = (taken_of b).answer in tile_back a.tile a.shown (bit_of a.simple) (tokens_eight b) (reader_fits b y)
