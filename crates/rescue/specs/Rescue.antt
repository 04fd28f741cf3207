-- The rescue call (request M-108): the picture call; then, where a token partition ran out in macroblock k, k and every later macroblock from
-- its modes, without a residual and counted empty, and no other partition's tokens are read; where the first partition runs out the rest stays
-- grey. A mark for each macroblock says which it is.
use Rattle.std.specs.Prelude.{◌+◌, ◌-◌, ◌&&◌, ◌∷◌}
use Rattle.numbers.specs.Words.{ℕ, zero, suc, true, false, eqb, ltb, List, [], length, build, Result, Ok, Err}
use Rattle.reader.specs.declared.boolean.Reader.{Reader}
use Rattle.reader.specs.ReadingLaws.{Valid}
use Rattle.header.specs.Header.{entries_of}
use Rattle.tile.specs.Tile.{sides_of, count_of, partitions_of, blocks_of}
use Rattle.lent.specs.declared.sizes.Sizes.{Sizes}
use Rattle.lent.specs.Memory.{Memory, sizes_of}
use Rattle.macroblock.specs.Macroblock.{Step, finished, no_modes, no_tokens}
use Rattle.macroblock.specs.Rebuilt.{rebuilt_of}
use Rattle.choices.specs.declared.answer.Stop.TheVariants as Stop
use Rattle.choices.specs.declared.answer.Refusal.{Refusal}
use Rattle.choices.specs.Choices.{Call, lengths_of, failed, named, refusal_number_of, told_by, values_of, Decoded}
use Rattle.picture.specs.Picture.{Picture, State, pictured_of, column_of, partition_of, planes_in, place_of, readers_at, around_at, next_of}
use Rattle.picture.specs.Halt.{Halted, halted_of}

-- ---- 1 to 5 as the picture call checks them, 4 also covering the marks: a byte a macroblock
unfoldable pub rescue_refusal_of : Call → Sizes → (marks : ℕ) → ℕ
rescue_refusal_of c z marks =
    failed 1
    (sides_of c.tile.width c.tile.height
    ∷ count_of c.tile.count
    ∷ entries_of c.header
    ∷ (lengths_of c z && eqb marks (blocks_of c.tile.width c.tile.height))
    ∷ partitions_of c.bytes c.tile
    ∷ [])

-- the same by name
abbrev pub rescue_checked_of : Call → Sizes → (marks : ℕ) → Result (Unit {0}) Refusal
rescue_checked_of c z marks = told_by (rescue_refusal_of c z marks)

-- ---- after the stop
-- a reader that is in range in some partition: it stays so, since it is not read
pub record Held (t : Reader) : Type 0 where
  pub tokens : List ℕ
  pub valid : Valid tokens t

-- macroblock k rebuilt from its modes, in the state that it finds
unfoldable pub rebuilt_at : Picture → ℕ → State → Step
rebuilt_at P k S = rebuilt_of P.first (readers_at S (partition_of P k)) P.frame (around_at P S (column_of P k)) (place_of P k) (planes_in S.mem)

-- how many macroblocks are not grey, and the lent memory
pub record Saved : Type 0 where
  pub count : ℕ
  pub mem : Memory

-- the two as one
abbrev pub saved_at : ℕ → Memory → Saved
saved_at count mem = record { count = count; mem = mem }

-- n macroblocks from number k on, each from its modes (RFC 6386, section 19.3, 7239-7272), until these run out
unfoldable pub rest_of : ℕ → Picture → ℕ → State → Saved
rest_of zero P k S = saved_at k S.mem
rest_of (suc n) P k S =
    elim (rebuilt_at P k S) [
      | finished x ↦ rest_of n P (k + 1) (next_of P k S x)
      | no_modes ↦ saved_at k S.mem
      | no_tokens ↦ saved_at k S.mem
    ]

-- from the picture call's answer and state on, of M macroblocks: where tokens ran out (7) the rest from modes; else it stays as it is
abbrev pub gone_on : (M : ℕ) → Picture → Decoded → State → Saved
gone_on M P (Ok k) S = saved_at k S.mem
gone_on M P (Err (Stop.Refused n)) S = saved_at 0 S.mem
gone_on M P (Err (Stop.NoModes k)) S = saved_at k S.mem
gone_on M P (Err (Stop.NoTokens k)) S = rest_of (M - k) P k S

-- ---- the mark of macroblock i: 0 where it is among the `whole` that the picture call finishes, 1 where it is among the `saved`, else 2
unfoldable pub mark_of_of : (whole saved i : ℕ) → ℕ
mark_of_of whole saved i = elim (ltb i whole) [ true ↦ 0 | false ↦ elim (ltb i saved) [ true ↦ 1 | false ↦ 2 ] ]

-- the marks of M macroblocks
unfoldable pub marks_of : (M whole saved : ℕ) → List ℕ
marks_of M whole saved = build M (mark_of_of whole saved)

-- ---- the answer, with the lent memory and the marks: so many macroblocks are not grey, or the argument that was refused
abbrev pub Rescued : Type 0
Rescued = Result ℕ Refusal

-- the three
pub record RescueEnded : Type 0 where
  pub answer : Rescued
  pub mem : Memory
  pub marks : List ℕ

-- the three as one
abbrev pub rescue_ended : Rescued → Memory → List ℕ → RescueEnded
rescue_ended answer mem marks = record { answer = answer; mem = mem; marks = marks }

-- what is told where no argument is refused: M macroblocks, the picture call's end, and how far it came after that
abbrev pub rescued : (M : ℕ) → Halted → Saved → RescueEnded
rescued M h s = rescue_ended (Ok s.count) s.mem (marks_of M (values_of h.answer) s.count)

-- how far a call comes after its stop
abbrev pub saved_of : Call → Memory → Saved
saved_of c m = gone_on (blocks_of c.tile.width c.tile.height) (pictured_of c) (halted_of c m).answer (halted_of c m).state

-- THE CALL: a bad argument is refused by number (1 to 5) and nothing lent changes, marks included
unfoldable pub rescue_of : Call → Memory → (marks : List ℕ) → RescueEnded
rescue_of c m marks =
    elim (rescue_refusal_of c (sizes_of m) (length marks)) [
      | zero ↦ rescued (blocks_of c.tile.width c.tile.height) (halted_of c m) (saved_of c m)
      | suc n ↦ rescue_ended (Err (named (suc n))) m marks
    ]

-- ---- the answer as a number
abbrev pub rescue_number_of : Rescued → ℕ
rescue_number_of (Ok n) = 0
rescue_number_of (Err r) = refusal_number_of r

-- the macroblocks marked 0 or 1; 0 where an argument is refused
abbrev pub saved_count_of : Rescued → ℕ
saved_count_of (Ok n) = n
saved_count_of (Err r) = 0
