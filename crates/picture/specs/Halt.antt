-- The picture call with the state that it stopped in: what the macroblock found that it did not finish, for a call that goes on from there
-- (request M-108). Answer and memory are those of the picture call: `halted_picture`, in HaltLaws, proves it.
use Rattle.std.specs.Prelude.{◌+◌}
use Rattle.numbers.specs.Words.{ℕ, zero, suc, List, Ok, Err}
use Rattle.reader.specs.declared.boolean.Reader.{Reader}
use Rattle.modes.specs.declared.contexts.Context.{Context}
use Rattle.macroblock.specs.Macroblock.{finished, no_modes, no_tokens}
use Rattle.lent.specs.Memory.{Memory, sizes_of}
use Rattle.tile.specs.Tile.{blocks_of}
use Rattle.choices.specs.declared.answer.Stop.TheVariants as Stop
use Rattle.choices.specs.Choices.{named, Call, refusal_of, Decoded}
use Rattle.picture.specs.Picture.{Picture, State, step_at, next_of, pictured_of, start_of, begun_of}

-- how it ended, and the state in which it did
pub record Halted : Type 0 where
  pub answer : Decoded
  pub state : State

-- the reader of the first partition, those of the token partitions, what lies to the left, and the lent memory, as one
abbrev pub state_of : Reader → List Reader → Context → Memory → State
state_of r l c m = record { reader = r; readers = l; left = c; mem = m }

-- an answer and a state as one
abbrev pub halted_at : Decoded → Reader → List Reader → Context → Memory → Halted
halted_at answer r l c m = record { answer = answer; state = state_of r l c m }

-- n macroblocks from number k on, until one is refused: `run_of` with its state
unfoldable pub halt_of : ℕ → Picture → ℕ → State → Halted
halt_of zero P k S = record { answer = Ok k; state = S }
halt_of (suc n) P k S =
    elim (step_at P k S) [
      | finished x ↦ halt_of n P (k + 1) (next_of P k S x)
      | no_modes ↦ record { answer = Err (Stop.NoModes k); state = S }
      | no_tokens ↦ record { answer = Err (Stop.NoTokens k); state = S }
    ]

-- THE CALL: where an argument is refused (1 to 5) the state is the one before the first macroblock, and nothing lent has changed
unfoldable pub halted_of : Call → Memory → Halted
halted_of c m =
    elim (refusal_of c (sizes_of m)) [
      | zero ↦ halt_of (blocks_of c.tile.width c.tile.height) (pictured_of c) 0 (begun_of c m)
      | suc n ↦ record { answer = Err (Stop.Refused (named (suc n))); state = start_of c.bytes c.tile m }
    ]
