-- Demand 1, partitions that end too soon: the picture stops at the first macroblock that asks for a byte that is not there, and only so.
use Rattle.std.specs.Prelude.{◌<◌, ◌≡◌}
use Rattle.numbers.specs.Words.{ℕ, sym, ◌∙◌, subst, Ok, Err}
use Rattle.reader.specs.declared.boolean.Reader.{Reader}
use Rattle.reader.specs.Reading.{given, missing}
use Rattle.modes.specs.Modes.{Macroblock}
use Rattle.choices.specs.declared.answer.Stop.TheVariants as Stop
use Rattle.lent.specs.Memory.{Memory}
use Rattle.tile.specs.Tile.{blocks_of}
use Rattle.choices.specs.Choices.{Call}
use Rattle.picture.specs.Picture.{State, pictured_of, begun_of, picture_of}
use Rattle.promises.specs.Refusals.{Fine, fine_is}
use Rattle.promises.specs.Reached.{Reached, modes_asked, tokens_asked, Ending}
use Rattle.promises.specs.ReachedLaws.{ending, ends_whole, stops_modes, stops_tokens, missing_modes, missing_tokens}

-- the macroblocks of a tile
abbrev pub macroblocks : Call → ℕ
macroblocks t = blocks_of t.tile.width t.tile.height

-- how the picture call of a tile ends, its arguments being good
abbrev pub Ends : Call → Memory → Type 0
Ends t m = Ending (pictured_of t) (begun_of t m) (macroblocks t) (picture_of t m)

-- THE PROMISE, both ways. What the call answers is one of these three: all are finished (0); macroblock k's modes ask for a byte that
-- the first partition lacks (6); its tokens ask for one that its token partition lacks (7); and none before k does.
-- And where one of them is so, that is what the call answers.
pub record Stops (t : Call) (m : Memory) : Type 0 where
  pub one : Ends t m
  pub whole : {S : State} → Reached (pictured_of t) (begun_of t m) (macroblocks t) S → picture_of t m ≡ record { answer = Ok (macroblocks t); mem = S.mem }
  pub modes : {k : ℕ} {S : State} → k < macroblocks t → Reached (pictured_of t) (begun_of t m) k S → modes_asked (pictured_of t) k S ≡ missing → picture_of t m ≡ record { answer = Err (Stop.NoModes k); mem = S.mem }
  pub tokens : {k : ℕ} {S : State} {x : Macroblock} {r : Reader} → k < macroblocks t → Reached (pictured_of t) (begun_of t m) k S
      → modes_asked (pictured_of t) k S ≡ given x r → tokens_asked (pictured_of t) k S x ≡ missing → picture_of t m ≡ record { answer = Err (Stop.NoTokens k); mem = S.mem }

pub stops_at : (t : Call) (m : Memory) → Fine t m → Stops t m
stops_at t m e =
    let f = fine_is t m e in
    record {
      one = subst (Ending (pictured_of t) (begun_of t m) (macroblocks t)) (sym f) (ending (pictured_of t) (begun_of t m) (macroblocks t));
      whole = λ r. f ∙ ends_whole (pictured_of t) (begun_of t m) (macroblocks t) r;
      modes = λ {k} {S} h r g. f ∙ stops_modes (pictured_of t) (begun_of t m) (macroblocks t) h r (missing_modes (pictured_of t) k S g);
      tokens = λ {k} {S} {x} {r} h i g d. f ∙ stops_tokens (pictured_of t) (begun_of t m) (macroblocks t) h i (missing_tokens (pictured_of t) k S x r g d);
    }
