-- What the source's vp8_macroblock promises of a macroblock that is finished, in its words: with the header, and not with what was made of it.
use Rattle.std.specs.Prelude.{◌≡◌, ◌||◌}
use Rattle.numbers.specs.Words.{ℕ, not, List, ℤ, up_to}
use Rattle.header.specs.Header.{sharpness, entry}
use Rattle.header.specs.Quantizers.{factors_of_of}
use Rattle.header.specs.Levels.{level_of_of}
use Rattle.header.specs.Frame.{announced_of}
use Rattle.reader.specs.Reading.{given, run}
use Rattle.modes.specs.Modes.{modes_of}
use Rattle.residual.specs.Residual.{Model, residual_of}
use Rattle.filter.specs.Strengths.{strength_of_of}
use Rattle.macroblock.specs.Macroblock.{Readers, Around, Finished, below, beside}

-- the modes; the residual with the segment's factors; the strengths of the segment's level and of what was coded; the modes and flags that are
-- left below and to the right
pub record Source (h : List ℤ) (s tokens : List ℕ) (readers : Readers) (table : List ℕ) (around : Around) (x : Finished) : Type 0 where
  pub model : Model
  pub modes : run (modes_of (announced_of h) around.top.modes around.left.modes) s readers.first ≡ given x.modes x.readers.first
  pub coefficients : run (residual_of table (factors_of_of h x.modes.segment) x.modes.small x.modes.skip around.top.flags around.left.flags) tokens readers.token ≡ given model x.readers.token
  pub strengths : x.strength ≡ strength_of_of (level_of_of h x.modes.segment x.modes.small) (up_to 255 (entry h sharpness)) (x.modes.small || not model.empty)
  pub top : x.top ≡ below x.modes model.top
  pub left : x.left ≡ beside x.modes model.left
