-- How far a picture comes: the state that its k-th macroblock finds, what that macroblock asks, and how the picture ends.
use Rattle.std.specs.Prelude.{◌<◌, ◌≡◌}
use Rattle.numbers.specs.Words.{ℕ, suc, get_or, Ok, Err}
use Rattle.reader.specs.declared.boolean.Reader.{Reader}
use Rattle.reader.specs.Reading.{Given, given, missing, no_reader_of, run}
use Rattle.modes.specs.Modes.{Macroblock, modes_of}
use Rattle.residual.specs.Residual.{Model, residual_of}
use Rattle.header.specs.Frame.{factors_at}
use Rattle.macroblock.specs.Macroblock.{Finished, finished}
use Rattle.choices.specs.declared.answer.Stop.TheVariants as Stop
use Rattle.picture.specs.Picture.{Picture, State, Ended, column_of, partition_of, around_at, step_at, next_of}

-- from the state S₀, k macroblocks are finished one after the other, and the next one finds the state S
pub data Reached (P : Picture) (S₀ : State) : ℕ → State → Type 0 where
  start : Reached P S₀ 0 S₀
  after : {k : ℕ} {S : State} {x : Finished} → Reached P S₀ k S → step_at P k S ≡ finished x → Reached P S₀ (suc k) (next_of P k S x)

-- what macroblock k asks of the first partition: its modes (RFC 6386, section 19.3, 7239-7272); `missing` where it asks for a byte that is not there
abbrev pub modes_asked : Picture → ℕ → State → Given Macroblock
modes_asked P k S = let a = around_at P S (column_of P k) in run (modes_of P.frame.announced a.top.modes a.left.modes) P.first S.reader

-- what macroblock k, its modes being m, asks of its row's token partition: its coefficients (7316-7352)
abbrev pub tokens_asked : Picture → ℕ → State → Macroblock → Given Model
tokens_asked P k S m =
    let a = around_at P S (column_of P k) in
    run (residual_of P.table (factors_at P.frame m.segment) m.small m.skip a.top.flags a.left.flags)
    (P.token (partition_of P k)) (get_or S.readers (partition_of P k) no_reader_of)

-- how a picture of M macroblocks ends: all are finished; or every one before k is, and k asks for a byte that its partition lacks,
-- for its modes, or else for its tokens. Memory is as the last one that is finished left it.
pub data Ending (P : Picture) (S₀ : State) (M : ℕ) : Ended → Type 0 where
  whole : {S : State} → Reached P S₀ M S → Ending P S₀ M (record { answer = Ok M; mem = S.mem })
  modes_out : {k : ℕ} {S : State} → k < M → Reached P S₀ k S → modes_asked P k S ≡ missing → Ending P S₀ M (record { answer = Err (Stop.NoModes k); mem = S.mem })
  tokens_out : {k : ℕ} {S : State} {m : Macroblock} {r : Reader} → k < M → Reached P S₀ k S → modes_asked P k S ≡ given m r → tokens_asked P k S m ≡ missing
      → Ending P S₀ M (record { answer = Err (Stop.NoTokens k); mem = S.mem })
