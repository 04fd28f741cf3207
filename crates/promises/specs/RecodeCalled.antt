-- M-112 over the calls that C and Rust link: what `hookbarley_recode` leaves is what `hookbarley_decode` takes next, and it leaves the same.
use Rattle.std.specs.Prelude.{◌≡◌}
use Rattle.numbers.specs.Words.{ℕ, zero, suc, arith, refl, sym, ◌∙◌, ap, subst, ⊎_elim, eq_or, List, length, ℤ}
use Rattle.reader.specs.Reading.{Bytes}
use Rattle.tile.specs.declared.Tile.{Tile}
use Rattle.lent.specs.Memory.{Memory}
use Rattle.choices.specs.Choices.{Call, call_of, number_of, values_of}
use Rattle.picture.specs.Picture.{Ended, picture_of}
use Rattle.recode.specs.Recode.{recode_of, RecodeEnded}
use Rattle.boundary.specs.TileNumbers.{FieldsFit, tile_of_numbers}
use Rattle.boundary.specs.TileNumbersLaws.{fields_fit}
use Rattle.hookbarley.specs.Calls.{PictureCalled, handed_call, called_of, result_of, RecodeCalled, recode_called_of}
use Rattle.hookbarley.specs.CallsLaws.{called_picture, result_length, result_back, recode_no_tile, recode_no_result, recode_called}
use Rattle.promises.specs.Recoded.{refused_as_picture, written_so, fits, recode_decodes}
use Rattle.recode.specs.declared.Recoded.{Recoded}

-- ---- two calls of `hookbarley_decode`: both answer 0, with as many macroblocks, and leave the same memory
pub record SameDecoded (a b : PictureCalled) : Type 0 where
  pub first : a.number ≡ 0
  pub second : b.number ≡ 0
  pub finished : a.finished ≡ b.finished
  pub mem : a.mem ≡ b.mem

-- a tile that is recoded is one that the picture call answers 0
whole_first : (c : Call) (m : Memory) (out : List ℕ) → (recode_of c m out).answer.number ≡ 0 → number_of (picture_of c m).answer ≡ 0
whole_first c m out f = go (number_of (picture_of c m).answer) refl
  where
    go : (n : ℕ) → number_of (picture_of c m).answer ≡ n → number_of (picture_of c m).answer ≡ 0
    go zero e = e
    go (suc n) e = absurd (let z : suc n ≡ 0 = sym (ap (λ (x : RecodeEnded). x.answer.number) (refused_as_picture c m out e)) ∙ f in omega arith)

module _ (bytes : List ℕ) (header : List ℤ) (tile : List ℕ) (m : Memory) (out : List ℕ) where
  -- the result's numbers make the tile that was written
  handed : let x = recode_of (handed_call bytes header tile) m out in x.answer.number ≡ 0 → tile_of_numbers (result_of tile x.answer) ≡ x.answer.tile
  handed f =
      let c : Call = handed_call bytes header tile in
      let w = whole_first c m out f in
      let h = written_so c m out w (fits c m out w f) in
      result_back tile (recode_of c m out).answer f
      (ap (λ (x : RecodeEnded). length x.answer.tile.tokens) h)
      (subst (λ (x : RecodeEnded). FieldsFit x.answer.tile.reader.range x.answer.tile.reader.shifts x.answer.tile.reader.window) (sym h) (fields_fit tile))

  decoded_after : length tile ≡ 28 → Bytes bytes → let x = recode_of (handed_call bytes header tile) m out in x.answer.number ≡ 0
      → SameDecoded (called_of bytes header tile m) (called_of x.out header (result_of tile x.answer) m)
  decoded_after e y f =
      let c : Call = handed_call bytes header tile in
      let x : RecodeEnded = recode_of c m out in
      let w = whole_first c m out f in
      let a = called_picture bytes header tile m e in
      let b = called_picture x.out header (result_of tile x.answer) m (result_length tile x.answer f) in
      let p : picture_of (handed_call x.out header (result_of tile x.answer)) m ≡ picture_of c m = ap (λ (t : Tile). picture_of (call_of x.out t header) m) (handed f) ∙ recode_decodes c m out w y f in
      record {
        first = ap (λ (r : PictureCalled). r.number) a ∙ w;
        second = ap (λ (r : PictureCalled). r.number) b ∙ ap (λ (q : Ended). number_of q.answer) p ∙ w;
        finished = ap (λ (r : PictureCalled). r.finished) a ∙ sym (ap (λ (q : Ended). values_of q.answer) p) ∙ sym (ap (λ (r : PictureCalled). r.finished) b);
        mem = ap (λ (r : PictureCalled). r.mem) a ∙ sym (ap (λ (q : Ended). q.mem) p) ∙ sym (ap (λ (r : PictureCalled). r.mem) b);
      }

-- THE PROMISE: where `hookbarley_recode` answers 0, so does `hookbarley_decode`, of what was recoded and of the result
pub recode_handed_over : (bytes : List ℕ) (header : List ℤ) (tile : List ℕ) (m : Memory) (out result : List ℕ) → Bytes bytes → (recode_called_of bytes header tile m out result).number ≡ 0
    → let r = recode_called_of bytes header tile m out result in SameDecoded (called_of bytes header tile m) (called_of r.out header r.result m)
recode_handed_over bytes header tile m out result y n =
    ⊎_elim
    (λ (e : length tile ≡ 28).
    ⊎_elim
    (λ (f : length result ≡ 28).
    let g = recode_called bytes header tile m out result e f in
    subst (λ (r : RecodeCalled). SameDecoded (called_of bytes header tile m) (called_of r.out header r.result m)) (sym g)
    (decoded_after bytes header tile m out e y (sym (ap (λ (r : RecodeCalled). r.number) g) ∙ n)))
    (λ (f : length result ≡ 28 → ⊥). nine (ap (λ (r : RecodeCalled). r.number) (recode_no_result bytes header tile m out result e f)))
    (eq_or (length result) 28))
    (λ (e : length tile ≡ 28 → ⊥). nine (ap (λ (r : RecodeCalled). r.number) (recode_no_tile bytes header tile m out result e)))
    (eq_or (length tile) 28)
  where
    nine : {A : Type 0} → 9 ≡ (recode_called_of bytes header tile m out result).number → A
    nine k = absurd (let z : 9 ≡ 0 = k ∙ n in omega arith)
