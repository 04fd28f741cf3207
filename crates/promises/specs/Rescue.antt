-- What is promised of the rescue call (request M-108). RescueLaws proves it, and RescueDeblockedLaws what is promised after deblocking.
use Rattle.std.specs.Prelude.{◌*◌, ◌/◌, ◌≤◌, ◌<◌, ◌≡◌, ◌⊎◌}
use Rattle.numbers.specs.Words.{ℕ, Bool, List, length, get_or, Err}
use Rattle.lent.specs.Memory.{mode_width, strength_width, Memory, sizes_of}
use Rattle.choices.specs.Choices.{Call, named, refusal_of, number_of}
use Rattle.picture.specs.Picture.{picture_of}
use Rattle.rescue.specs.Rescue.{rescue_refusal_of, RescueEnded, rescue_ended, rescue_of, rescue_number_of, saved_count_of}
use Rattle.promises.specs.Stops.{macroblocks}
use Rattle.promises.specs.Places.{Plane, plane_side, sample_of, mode_byte, strength_byte, block_at}
use Rattle.promises.specs.Grey.{InPlane, done}
use Rattle.promises.specs.Isolation.{SameTokens}
use Rattle.promises.specs.Deblocked.{deblocked_of, IsolatedDeblocked}

-- the number that the first of the five checks gives that fails, 0 where none does
abbrev pub rescue_refusal : Call → Memory → List ℕ → ℕ
rescue_refusal t m marks = rescue_refusal_of t (sizes_of m) (length marks)

-- no argument is refused
abbrev pub RescueFine : Call → Memory → List ℕ → Type 0
RescueFine t m marks = rescue_refusal t m marks ≡ 0

-- the mark of macroblock i
abbrev pub mark_at : ℕ → RescueEnded → ℕ
mark_at i E = get_or E.marks i 0

-- macroblocks that are not grey, as the call answers
abbrev pub saved : Call → Memory → List ℕ → ℕ
saved t m marks = saved_count_of (rescue_of t m marks).answer

-- ---- refusals
-- THE PROMISE, where an argument is refused: a number in 1..5, no macroblock saved, memory and marks as they were lent
pub record RescueRefused (t : Call) (m : Memory) (marks : List ℕ) : Type 0 where
  pub is : rescue_of t m marks ≡ rescue_ended (Err (named (rescue_refusal t m marks))) m marks
  pub number : rescue_number_of (rescue_of t m marks).answer ≡ rescue_refusal t m marks
  pub least : 1 ≤ rescue_refusal t m marks
  pub most : rescue_refusal t m marks ≤ 5

-- THE PROMISE: which number. Where the marks are a byte a macroblock it is the picture call's; where they are not, it is the picture call's
-- where that is 1 to 4, and else 4
pub record RescueNumbers (t : Call) (m : Memory) (marks : List ℕ) : Type 0 where
  pub right : length marks ≡ macroblocks t → rescue_refusal t m marks ≡ refusal_of t (sizes_of m)
  pub early : (refusal_of t (sizes_of m) ≡ 0 → ⊥) → refusal_of t (sizes_of m) < 5 → rescue_refusal t m marks ≡ refusal_of t (sizes_of m)
  pub wrong : (length marks ≡ macroblocks t → ⊥) → (refusal_of t (sizes_of m) ≡ 0) ⊎ (5 ≤ refusal_of t (sizes_of m)) → rescue_refusal t m marks ≡ 4

-- ---- marks
-- THE PROMISE, where none is refused: 0; the marks, one a macroblock, are 0 for what the picture call finishes, 1 from there to what is saved,
-- 2 from there on; and where tokens did not run out nothing more is saved than that is finished
pub record Marked (t : Call) (m : Memory) (marks : List ℕ) : Type 0 where
  pub number : rescue_number_of (rescue_of t m marks).answer ≡ 0
  pub least : done t m ≤ saved t m marks
  pub most : saved t m marks ≤ macroblocks t
  pub long : length (rescue_of t m marks).marks ≡ macroblocks t
  pub whole : (i : ℕ) → i < done t m → mark_at i (rescue_of t m marks) ≡ 0
  pub modes : (i : ℕ) → done t m ≤ i → i < saved t m marks → mark_at i (rescue_of t m marks) ≡ 1
  pub grey : (i : ℕ) → saved t m marks ≤ i → i < macroblocks t → mark_at i (rescue_of t m marks) ≡ 2
  pub none : (number_of (picture_of t m).answer ≡ 7 → ⊥) → saved t m marks ≡ done t m

-- ---- memory
-- THE PROMISE, where none is refused: macroblocks marked 0 have the picture call's samples, modes and strengths; where tokens did not run out
-- all memory is the picture call's; grey ones are 128, with records of zeros
pub record Saves (t : Call) (m : Memory) (marks : List ℕ) : Type 0 where
  pub samples : (a : Plane) (c r : ℕ) → InPlane t a c r → block_at (t.tile.width / 16) a c r < done t m
      → sample_of (t.tile.width / 16) a c r (rescue_of t m marks).mem ≡ sample_of (t.tile.width / 16) a c r (picture_of t m).mem
  pub modes : (i : ℕ) → i < done t m * mode_width → mode_byte i (rescue_of t m marks).mem ≡ mode_byte i (picture_of t m).mem
  pub strengths : (i : ℕ) → i < done t m * strength_width → strength_byte i (rescue_of t m marks).mem ≡ strength_byte i (picture_of t m).mem
  pub all : (number_of (picture_of t m).answer ≡ 7 → ⊥) → (rescue_of t m marks).mem ≡ (picture_of t m).mem
  pub grey : (a : Plane) (c r : ℕ) → InPlane t a c r → saved t m marks ≤ block_at (t.tile.width / 16) a c r → sample_of (t.tile.width / 16) a c r (rescue_of t m marks).mem ≡ 128
  pub no_modes : (i : ℕ) → saved t m marks * mode_width ≤ i → mode_byte i (rescue_of t m marks).mem ≡ 0
  pub no_strengths : (i : ℕ) → saved t m marks * strength_width ≤ i → strength_byte i (rescue_of t m marks).mem ≡ 0

-- ---- isolation
-- THE PROMISE: demand 3 of the rescue call, for two tiles alike in all but token partition p's bytes
pub record RescueIsolated (p : ℕ) (t u : Call) (m n : Memory) (k l : List ℕ) : Type 0 where
  -- all macroblock rows above row p get the same samples, modes, strengths and marks
  pub samples : (a : Plane) (c r : ℕ) → c < t.tile.width / 16 * plane_side a → r < p * plane_side a
      → sample_of (t.tile.width / 16) a c r (rescue_of t m k).mem ≡ sample_of (t.tile.width / 16) a c r (rescue_of u n l).mem
  pub modes : (i : ℕ) → i < p * (t.tile.width / 16) * mode_width → mode_byte i (rescue_of t m k).mem ≡ mode_byte i (rescue_of u n l).mem
  pub strengths : (i : ℕ) → i < p * (t.tile.width / 16) * strength_width → strength_byte i (rescue_of t m k).mem ≡ strength_byte i (rescue_of u n l).mem
  pub marks : (i : ℕ) → i < p * (t.tile.width / 16) → mark_at i (rescue_of t m k) ≡ mark_at i (rescue_of u n l)
  -- where the picture call of one stops above row p, all is the same
  pub stops : done t m < p * (t.tile.width / 16) → rescue_of t m k ≡ rescue_of u n l
  -- if no row p exists, or nothing differs, or partition p is past the count, answers, marks and all memory agree
  pub no_row : t.tile.height / 16 ≤ p → rescue_of t m k ≡ rescue_of u n l
  pub no_difference : SameTokens t u p → rescue_of t m k ≡ rescue_of u n l
  pub ignored : t.tile.count ≤ p → rescue_of t m k ≡ rescue_of u n l

-- ---- after deblocking
-- THE PROMISE: demand 3 of the deblocking call on what the rescue call leaves, for two such tiles
pub record RescueIsolatedDeblocked (p : ℕ) (t u : Call) (m n : Memory) (k l : List ℕ) (simple : Bool) : Type 0 where
  -- all that `isolated_deblocked` says of what the picture call leaves
  pub isolated : IsolatedDeblocked p t u (rescue_of t m k).mem (rescue_of u n l).mem simple
  -- and where the picture call of the first stops above row p, all agree
  pub stops : done t m < p * (t.tile.width / 16) → deblocked_of t (rescue_of t m k).mem simple ≡ deblocked_of u (rescue_of u n l).mem simple
