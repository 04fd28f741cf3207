-- The key frame's own header (RFC 6386, sections 9 and 19.2, 6806-6854): what is taken of a frame, the picture call never refuses. `taken_of` is the
-- definition that the contract of `take` equals (crates/frame/specs/Take.antt).
use Rattle.std.specs.Prelude.{◌≡◌, ◌⊎◌}
use Rattle.numbers.specs.Words.{ℕ, refl, sym, inl, inr, List}
use Rattle.reader.specs.Reading.{Bytes}
use Rattle.lent.specs.Memory.{Memory, sizes_of, packed, Sized}
use Rattle.choices.specs.ChoicesLaws.{refusal_none}
use Rattle.choices.specs.Choices.{number_of}
use Rattle.picture.specs.Picture.{Picture, State, Ended}
use Rattle.frame.specs.Take.{taken_of}
use Rattle.frame.specs.PassesLaws.{taken_is_fine}
use Rattle.key_frame.specs.KeyFrame.{frame_call}
use Rattle.promises.specs.Refusals.{Fine, number}
use Rattle.promises.specs.Reached.{Ending, whole, modes_out, tokens_out}
use Rattle.promises.specs.Stops.{stops_at}

module _ (b : List ℕ) (y : Bytes b) (e : (taken_of b).answer.number ≡ 0) (m : Memory) (s : Sized packed (taken_of b).answer.tile.width (taken_of b).answer.tile.height (sizes_of m)) where
  -- THE PROMISE: a frame that is taken, with memory of the lengths that check 4 asks, passes all five checks
  pub taken_passes : Fine (frame_call b) m
  taken_passes =
      let p = taken_is_fine b y e in
      sym (refusal_none (frame_call b) (sizes_of m) p.sides p.counted p.each (record { sizes = s; header = p.long }) p.cut)

  -- so the picture call answers 0, 6 or 7
  pub taken_answers : (number (frame_call b) m ≡ 0) ⊎ (number (frame_call b) m ≡ 6) ⊎ (number (frame_call b) m ≡ 7)
  taken_answers = go (stops_at (frame_call b) m taken_passes).one
    where
      go : {P : Picture} {S : State} {k : ℕ} {o : Ended} → Ending P S k o → (number_of o.answer ≡ 0) ⊎ (number_of o.answer ≡ 6) ⊎ (number_of o.answer ≡ 7)
      go (whole r) = inl refl
      go (modes_out l r g) = inr (inl refl)
      go (tokens_out l r g h) = inr (inr refl)
