-- What a finished macroblock has to be written: its strengths are in range.
use Rattle.std.specs.Prelude.{◌≡◌, ◌||◌}
use Rattle.numbers.specs.Words.{ℕ, ◌∙◌, ap, true, not, List}
use Rattle.header.specs.declared.frame.Frame.{Frame}
use Rattle.header.specs.Frame.{level_at}
use Rattle.header.specs.FrameLaws.{Sound}
use Rattle.filter.specs.Strengths.{strength_fine_of}
use Rattle.filter.specs.StrengthsLaws.{strength_fine_lem}
use Rattle.macroblock.specs.Macroblock.{Place, Readers, Around, Planes, Finished, finished, step_of}
use Rattle.macroblock.specs.StepLaws.{step_both}

pub step_strength : (first tokens : List ℕ) (readers : Readers) (f : Frame) (table : List ℕ) (around : Around) (place : Place) (p : Planes) {x : Finished}
    → Sound f → step_of first tokens readers f table around place p ≡ finished x → strength_fine_of x.strength ≡ true
step_strength first tokens readers f table around place p {x} k e =
    let b = step_both first tokens readers f table around place p e in
    ap strength_fine_of b.strengths
    ∙ strength_fine_lem (level_at f x.modes.small x.modes.segment) f.sharp (x.modes.small || not b.model.empty) (k.levels x.modes.small x.modes.segment)
