-- A macroblock from its modes alone (request M-108): for where its tokens are lost. Its modes are read as ever (RFC 6386, section 19.3,
-- 7239-7272), it is predicted from them (section 12) with no residual, and it counts as empty; no token is read.
use Rattle.std.specs.Prelude.{◌&&◌}
use Rattle.numbers.specs.Words.{ℕ, Bool, true, false, List, length, replicate, Err}
use Rattle.reader.specs.declared.boolean.Reader.{Reader}
use Rattle.reader.specs.Reading.{valid_of, run}
use Rattle.header.specs.declared.frame.Frame.{Frame}
use Rattle.modes.specs.Modes.{modes_of}
use Rattle.residual.specs.Residual.{Model, initial}
use Rattle.macroblock.specs.declared.ending.Unfinished.TheVariants as F
use Rattle.macroblock.specs.Macroblock.{Place, Readers, Around, Planes, Step, finished, end_of, after_modes, MacroblockCalled, to_macroblock_called, no_outcome, frame_fine_of, around_fine_of, place_fine}

-- no residual: 384 coefficients of 0, empty, and all nine flags 0 on either side
abbrev pub no_residual_of : Model
no_residual_of = initial (replicate 9 0) (replicate 9 0)

-- one macroblock: its modes from `first`, and nothing from a token partition, whose reader stays where it is
unfoldable pub rebuilt_of : (first : List ℕ) → Readers → Frame → Around → Place → Planes → Step
rebuilt_of first readers f around place p =
    after_modes (λ m next. finished (end_of f place p m next no_residual_of readers.token))
    (run (modes_of f.announced around.top.modes around.left.modes) first readers.first)

-- ---- the call
-- what is read is in range: the reader, contexts, levels of at most 63
unfoldable pub legible_of : (first : List ℕ) → Reader → Frame → Around → Bool
legible_of first r f around = valid_of first r && (around_fine_of around && frame_fine_of f)

-- `rebuild`: refused where that or its place is out of range, and then the planes stay
unfoldable pub rebuild_call_of : (first : List ℕ) → Readers → Frame → Around → Place → Planes → MacroblockCalled
rebuild_call_of first readers f around place p =
    elim (legible_of first readers.first f around && place_fine (length p.y) (length p.u) (length p.v) place) [
      | true ↦ to_macroblock_called p (rebuilt_of first readers f around place p)
      | false ↦ record { answer = no_outcome (Err F.Refused); planes = p }
    ]
