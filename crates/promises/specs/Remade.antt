-- What is promised of the macroblocks that the rescue call rebuilds from their modes (request M-108), marked 1. RemadeLaws proves it.
use Rattle.std.specs.Prelude.{◌+◌, ◌*◌, ◌/◌, ◌<◌, ◌≡◌}
use Rattle.numbers.specs.Words.{ℕ, suc, true, List, get_or, replicate}
use Rattle.modes.specs.Modes.{kinds_of}
use Rattle.macroblock.specs.Macroblock.{Finished, finished, strength_made}
use Rattle.lent.specs.Memory.{mode_width, strength_width, mode_record, strength_record, Memory}
use Rattle.choices.specs.Choices.{Call}
use Rattle.picture.specs.Picture.{Picture, State, pictured_of, next_of}
use Rattle.picture.specs.Halt.{halted_of}
use Rattle.rescue.specs.Rescue.{rebuilt_at, rescue_of}
use Rattle.promises.specs.Places.{Plane, sample_of, mode_byte, strength_byte, block_at}
use Rattle.promises.specs.Grey.{InPlane, done}
use Rattle.promises.specs.Rescue.{saved}

-- from the state S₀, which macroblock k finds, i macroblocks are rebuilt from their modes one after the other, and the next one finds the state S
pub data Rebuilding (P : Picture) (k : ℕ) (S₀ : State) : ℕ → State → Type 0 where
  begun : Rebuilding P k S₀ 0 S₀
  next : {i : ℕ} {S : State} {x : Finished} → Rebuilding P k S₀ i S → rebuilt_at P (k + i) S ≡ finished x → Rebuilding P k S₀ (suc i) (next_of P (k + i) S x)

-- THE PROMISE of macroblock k + i, the i-th behind the picture call's stop at k: what it found, and what was made of it from its modes alone; it counts as empty and leaves flags
-- of 0; and nothing later changed it
pub record Remade (t : Call) (m : Memory) (marks : List ℕ) (k i : ℕ) : Type 0 where
  pub found : State
  pub made : Finished
  pub reached : Rebuilding (pictured_of t) k (halted_of t m).state i found
  pub step : rebuilt_at (pictured_of t) (k + i) found ≡ finished made
  pub empty : made.strength ≡ strength_made (pictured_of t).frame made.modes true
  pub below : made.top.flags ≡ replicate 9 0
  pub beside : made.left.flags ≡ replicate 9 0
  pub samples : (a : Plane) (c r : ℕ) → InPlane t a c r → block_at (t.tile.width / 16) a c r ≡ k + i
      → sample_of (t.tile.width / 16) a c r (rescue_of t m marks).mem ≡ sample_of (t.tile.width / 16) a c r (next_of (pictured_of t) (k + i) found made).mem
  pub modes : (j : ℕ) → j < mode_width → mode_byte ((k + i) * mode_width + j) (rescue_of t m marks).mem ≡ get_or (mode_record (kinds_of made.modes) made.modes.modes) j 0
  pub strength : (j : ℕ) → j < strength_width → strength_byte ((k + i) * strength_width + j) (rescue_of t m marks).mem ≡ get_or (strength_record made.strength (kinds_of made.modes)) j 0

-- THE PROMISE of all memory, the columns too: it is as after the last macroblock that is not grey
pub record LastSaved (t : Call) (m : Memory) (marks : List ℕ) : Type 0 where
  pub rebuilt : ℕ
  pub count : saved t m marks ≡ done t m + rebuilt
  pub state : State
  pub reached : Rebuilding (pictured_of t) (done t m) (halted_of t m).state rebuilt state
  pub memory : (rescue_of t m marks).mem ≡ state.mem
