-- A picture counted as the code counts it, one thing after the other into one list. By its places the list is `tallied_of`: `tally_found`, in
-- TallyLaws, proves it.
use Rattle.std.specs.Prelude.{◌+◌, ◌≤◌, ◌≡◌}
use Rattle.numbers.specs.Words.{ℕ, zero, suc, Bool, true, false, ltb, bit_of, List, length, get_or, set}
use Rattle.lent.specs.declared.macroblocks.ModeRecord.{ModeRecord}
use Rattle.lent.specs.Memory.{mode_found, strength_found}
use Rattle.survey.specs.Survey.{luma_of}

-- one more in the table of `rows` counts that starts at `table`, at x; a value that the table has no place for counts nowhere
unfoldable pub counted : List ℕ → (table rows x : ℕ) → List ℕ
counted l table rows x = elim (ltb x rows) [ true ↦ set l (table + x) (get_or l (table + x) 0 + 1) | false ↦ l ]

-- the first n sub-blocks
unfoldable pub smalls_to : (n : ℕ) → List ℕ → List ℕ → List ℕ
smalls_to zero modes l = l
smalls_to (suc n) modes l = counted (smalls_to n modes l) 25 10 (get_or modes n 0)

-- the sixteen of a small macroblock, none of another
unfoldable pub subs_counted : Bool → List ℕ → List ℕ → List ℕ
subs_counted small modes l = elim small [ true ↦ smalls_to 16 modes l | false ↦ l ]

-- segment, luma, chroma, skip, inside byte
abbrev pub five_counted : ModeRecord → (inside : ℕ) → List ℕ → List ℕ
five_counted r inside l =
    counted
    (counted
    (counted
    (counted (counted l 8 4 r.kinds.segment) 12 5 (luma_of r.kinds.small (get_or r.modes 0 0)))
    17 4 r.kinds.chroma)
    21 2 (bit_of r.kinds.skip))
    23 2 inside

-- a macroblock
abbrev pub record_counted : ModeRecord → (inside : ℕ) → List ℕ → List ℕ
record_counted r inside l = subs_counted r.kinds.small r.modes (five_counted r inside l)

-- macroblock k, as mode and strength memory have it
unfoldable pub block_counted : (modes strengths : List ℕ) → ℕ → List ℕ → List ℕ
block_counted modes strengths k l = record_counted (mode_found modes k) (strength_found strengths k).strength.inside l

-- the first n macroblocks
unfoldable pub blocks_to : (n : ℕ) → (modes strengths : List ℕ) → List ℕ → List ℕ
blocks_to zero modes strengths l = l
blocks_to (suc n) modes strengths l = block_counted modes strengths n (blocks_to n modes strengths l)

-- counts that one more can be added to: 37 of them, none over n
pub record Roomy (l : List ℕ) (n : ℕ) : Type 0 where
  pub long : length l ≡ 37
  pub below : (i : ℕ) → get_or l i 0 ≤ n
