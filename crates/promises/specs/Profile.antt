-- What is promised of the cockpit profile (request M-111): it says yes exactly when all six rules hold, and else names the first that fails.
-- ProfileLaws proves it.
use Rattle.std.specs.Prelude.{◌<◌, ◌≡◌, ◌⊎◌}
use Rattle.numbers.specs.Words.{ℕ, true, pos, Ok, Err}
use Rattle.header.specs.Header.{segments_on, map_on, sharpness, entry}
use Rattle.lent.specs.Memory.{Memory}
use Rattle.choices.specs.Choices.{Call, named}
use Rattle.picture.specs.Picture.{picture_of}
use Rattle.profile.specs.declared.Misfit.TheVariants as P
use Rattle.profile.specs.Profile.{ProfileEnded, profiled, profile_of, profile_number_of}
use Rattle.promises.specs.Refusals.{Bad, Fine, number}
use Rattle.promises.specs.Stops.{macroblocks}
use Rattle.promises.specs.Grey.{Made}

-- ---- the six rules, each a fact of its own over the call and what the picture call makes of it
-- 1: the tile is 256 by 256
pub record Square (t : Call) : Type 0 where
  pub width : t.tile.width ≡ 256
  pub height : t.tile.height ≡ 256

-- 2: it has 1, 2 or 4 token partitions
abbrev pub Few : Call → Type 0
Few t = (t.tile.count ≡ 1) ⊎ (t.tile.count ≡ 2) ⊎ (t.tile.count ≡ 4)

-- 3: segments are off and there is no map: entries 2 and 3 are 0, each of them
pub record Plain (t : Call) : Type 0 where
  pub segments : entry t.header segments_on ≡ pos 0
  pub map : entry t.header map_on ≡ pos 0

-- 4: the sharpness, entry 19, is 0
abbrev pub Soft : Call → Type 0
Soft t = entry t.header sharpness ≡ pos 0

-- 5: the picture call answers 0
abbrev pub Whole : Call → Memory → Type 0
Whole t m = number t m ≡ 0

-- macroblock k is both skipped and small, by the modes that the definition reads for it
pub record Both (t : Call) (m : Memory) (k : ℕ) : Type 0 where
  pub made : Made t m k
  pub skipped : made.made.modes.skip ≡ true
  pub small : made.made.modes.small ≡ true

-- 6: no macroblock is
abbrev pub Neither : Call → Memory → Type 0
Neither t m = (k : ℕ) → k < macroblocks t → Both t m k → ⊥

-- all six
pub record Fitting (t : Call) (m : Memory) : Type 0 where
  pub square : Square t
  pub few : Few t
  pub plain : Plain t
  pub soft : Soft t
  pub whole : Whole t m
  pub neither : Neither t m

-- ---- the answer and the memory that is left
-- THE PROMISE, what an answer says. A rule is named where it fails and those before it hold; the last one with the first macroblock that is both.
-- An argument is refused by the picture call's own number, 3, 4 or 5, between the second rule and the third. Up to the fourth rule memory is as
-- it was lent, and from there as the picture call leaves it
pub data Judged (t : Call) (m : Memory) : ProfileEnded → Type 0 where
  fails_1 : (Square t → ⊥) → Judged t m (profiled (Err (P.Rule 1)) m)
  fails_2 : Square t → (Few t → ⊥) → Judged t m (profiled (Err (P.Rule 2)) m)
  refused : Square t → Few t → (number t m ≡ 3) ⊎ (number t m ≡ 4) ⊎ (number t m ≡ 5) → Judged t m (profiled (Err (P.Refused (named (number t m)))) m)
  fails_3 : Square t → Few t → Fine t m → (Plain t → ⊥) → Judged t m (profiled (Err (P.Rule 3)) m)
  fails_4 : Square t → Few t → Fine t m → Plain t → (Soft t → ⊥) → Judged t m (profiled (Err (P.Rule 4)) m)
  fails_5 : Square t → Few t → Fine t m → Plain t → Soft t → (Whole t m → ⊥) → Judged t m (profiled (Err (P.Rule 5)) (picture_of t m).mem)
  fails_6 : Square t → Few t → Plain t → Soft t → Whole t m → {k : ℕ} → k < macroblocks t → Both t m k → ((j : ℕ) → j < k → Both t m j → ⊥) → Judged t m (profiled (Err (P.Macroblock k)) (picture_of t m).mem)
  fits : Fitting t m → Judged t m (profiled (Ok tt) (picture_of t m).mem)

-- THE PROMISE, both ways: the answer is one of these; and where one of them is so, that is the answer
pub record Judges (t : Call) (m : Memory) : Type 0 where
  pub one : Judged t m (profile_of t m)
  pub rule_1 : (Square t → ⊥) → profile_of t m ≡ profiled (Err (P.Rule 1)) m
  pub rule_2 : Square t → (Few t → ⊥) → profile_of t m ≡ profiled (Err (P.Rule 2)) m
  pub refusal : Square t → Few t → Bad t m → profile_of t m ≡ profiled (Err (P.Refused (named (number t m)))) m
  pub rule_3 : Square t → Few t → Fine t m → (Plain t → ⊥) → profile_of t m ≡ profiled (Err (P.Rule 3)) m
  pub rule_4 : Square t → Few t → Fine t m → Plain t → (Soft t → ⊥) → profile_of t m ≡ profiled (Err (P.Rule 4)) m
  pub rule_5 : Square t → Few t → Fine t m → Plain t → Soft t → (Whole t m → ⊥) → profile_of t m ≡ profiled (Err (P.Rule 5)) (picture_of t m).mem
  pub rule_6 : Square t → Few t → Plain t → Soft t → Whole t m → {k : ℕ} → k < macroblocks t → Both t m k → ((j : ℕ) → j < k → Both t m j → ⊥) → profile_of t m ≡ profiled (Err (P.Macroblock k)) (picture_of t m).mem
  pub yes : Fitting t m → profile_of t m ≡ profiled (Ok tt) (picture_of t m).mem

-- THE PROMISE: yes exactly when all six rules hold
pub record YesExactly (t : Call) (m : Memory) : Type 0 where
  pub only : (profile_of t m).answer ≡ Ok tt → Fitting t m
  pub when : Fitting t m → (profile_of t m).answer ≡ Ok tt

-- THE PROMISE: the number is 0, 3, 4 or 5, and never 1 or 2
abbrev pub Refusing : Call → Memory → Type 0
Refusing t m = let n = profile_number_of (profile_of t m).answer in (n ≡ 0) ⊎ (n ≡ 3) ⊎ (n ≡ 4) ⊎ (n ≡ 5)

-- THE PROMISE of what fits: no argument is refused, all 256 macroblocks are finished, and memory is the picture call's. So all that is promised of
-- the picture call after 0 holds
pub record FitsWhole (t : Call) (m : Memory) : Type 0 where
  pub fine : Fine t m
  pub answer : (picture_of t m).answer ≡ Ok 256
  pub memory : (profile_of t m).mem ≡ (picture_of t m).mem
