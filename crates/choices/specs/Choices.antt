-- The small choices of a picture call.
use Rattle.std.specs.Prelude.{◌≡◌, ◌&&◌, ◌∷◌}
use Rattle.numbers.specs.Words.{ℕ, zero, suc, Bool, true, false, eqb, List, [], length, ℤ, pos, negsuc, Each, Result, Ok, Err}
use Rattle.header.specs.Header.{entry_count, entries_of}
use Rattle.tile.specs.declared.Tile.{Tile}
use Rattle.tile.specs.Tile.{sides_of, count_of, partitions_of}
use Rattle.lent.specs.Memory.{Form, packed, sizes_fine_of, Sized}
use Rattle.lent.specs.declared.sizes.Sizes.{Sizes}
use Rattle.macroblock.specs.Macroblock.{Finish}
use Rattle.macroblock.specs.declared.ending.Unfinished.TheVariants as F
use Rattle.choices.specs.declared.answer.Refusal.{Refusal}
use Rattle.choices.specs.declared.answer.Refusal.TheVariants as Refusal
use Rattle.choices.specs.declared.answer.Stop.{Stop}
use Rattle.choices.specs.declared.answer.Stop.TheVariants as Stop
use Rattle.modes.specs.declared.contexts.Context.{Context}
use Rattle.modes.specs.Modes.{empty_context}

-- ==== The argument checks of the picture call, 1 to 5 in this order. The first that fails gives its number; then nothing is
-- decoded and the lent memory is unchanged.

-- what the picture call is given besides memory, and the form of its columns
pub record Call : Type 0 where
  pub bytes : List ℕ
  pub tile : Tile
  pub header : List ℤ
  pub form : Form

-- the three put together: columns are packed (M-107)
abbrev pub call_of : List ℕ → Tile → List ℤ → Call
call_of bytes tile header = record { bytes = bytes; tile = tile; header = header; form = packed }

-- the same call over column memory of another form
abbrev pub call_in : Form → Call → Call
call_in form c = record { bytes = c.bytes; tile = c.tile; header = c.header; form = form }

-- ---- 4: the length of each lent memory, and of the header
unfoldable pub lengths_of : Call → Sizes → Bool
lengths_of c z = sizes_fine_of c.form c.tile.width c.tile.height z && eqb (length c.header) entry_count

-- ---- 3 and 4 as facts
-- 3: every entry lies in -255..255
abbrev pub Bounded : List ℤ → Type 0
Bounded = Each (negsuc 254) (pos 255)

-- 4: the lent memories and the header have their lengths
pub record Lengths (t : Call) (z : Sizes) : Type 0 where
  pub sizes : Sized t.form t.tile.width t.tile.height z
  pub header : length t.header ≡ entry_count

-- ---- the number of the first check that fails, counted from n; 0 where none does
unfoldable pub failed : ℕ → List Bool → ℕ
failed n [] = 0
failed n (true ∷ rest) = failed (suc n) rest
failed n (false ∷ rest) = n

-- 1 the sides, 2 the count, 3 each header entry in -255..255, 4 the lengths, 5 the partitions and the starting reader
abbrev pub checks_of : Call → Sizes → List Bool
checks_of c z =
    sides_of c.tile.width c.tile.height
    ∷ count_of c.tile.count
    ∷ entries_of c.header
    ∷ lengths_of c z
    ∷ partitions_of c.bytes c.tile
    ∷ []

-- the number of the first of the five that fails, 0 where none does
unfoldable pub refusal_of : Call → Sizes → ℕ
refusal_of c z = failed 1 (checks_of c z)

-- what the check of that number refuses
abbrev pub named : ℕ → Refusal
named (suc zero) = Refusal.Sides
named (suc (suc zero)) = Refusal.Count
named (suc (suc (suc zero))) = Refusal.Entries
named (suc (suc (suc (suc zero)))) = Refusal.Memory
named (suc (suc (suc (suc (suc zero))))) = Refusal.Partitions
named _ = Refusal.Argument

-- as a number again: 9 where a macroblock is refused what it is given; another as it is
abbrev pub refusal_number_of : Refusal → ℕ
refusal_number_of Refusal.Sides = 1
refusal_number_of Refusal.Count = 2
refusal_number_of Refusal.Entries = 3
refusal_number_of Refusal.Memory = 4
refusal_number_of Refusal.Partitions = 5
refusal_number_of Refusal.Argument = 9
refusal_number_of (Refusal.Other n) = n

-- 0 as no refusal, the others by name
abbrev pub told_by : ℕ → Result (Unit {0}) Refusal
told_by zero = Ok tt
told_by (suc n) = Err (named (suc n))

-- the first of the five that fails
abbrev pub checked_of : Call → Sizes → Result (Unit {0}) Refusal
checked_of c z = told_by (refusal_of c z)

-- ==== How a picture call ends, by number and macroblock.

-- so many macroblocks, all that there are; or why it ended early
abbrev pub Decoded : Type 0
Decoded = Result ℕ Stop

-- how the picture ends where macroblock k is not finished
abbrev pub stopped_of : Finish → ℕ → Decoded
stopped_of (Ok readers) k = Ok k
stopped_of (Err F.NoModes) k = Err (Stop.NoModes k)
stopped_of (Err F.NoTokens) k = Err (Stop.NoTokens k)
stopped_of (Err F.Refused) k = Err (Stop.Refused Refusal.Argument)

-- ---- the answer as a number
abbrev pub number_of : Decoded → ℕ
number_of (Ok k) = 0
number_of (Err (Stop.Refused r)) = refusal_number_of r
number_of (Err (Stop.NoModes k)) = 6
number_of (Err (Stop.NoTokens k)) = 7

-- k: the macroblocks finished, 0 where an argument is refused
abbrev pub values_of : Decoded → ℕ
values_of (Ok k) = k
values_of (Err (Stop.Refused r)) = 0
values_of (Err (Stop.NoModes k)) = k
values_of (Err (Stop.NoTokens k)) = k

-- ==== What lies to the left of a macroblock.

-- at column 0 nothing lies to the left: DC modes (section 11.3, 2490-2493) and no coefficients (section 13.3, 3608-3612)
unfoldable pub beside_of : ℕ → Context → Context
beside_of column left = elim (eqb column 0) [ true ↦ empty_context | false ↦ left ]
