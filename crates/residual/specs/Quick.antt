-- A macroblock over a wide reader, part after part: part 0 is the second-order block, part i + 1 is block i. Their numbers stand in one list:
-- the 384 of the macroblock by lanes, as they are handed over, then the sixteen of the second-order block.
use Rattle.std.specs.Prelude.{◌+◌, ◌*◌, ◌/◌, ◌%◌, ◌≡◌}
use Rattle.numbers.specs.Words.{ℕ, zero, suc, Bool, true, false, ltb, List, get_or, build, ℤ, pos}
use Rattle.reader.specs.Reading.{Reading, done, ◌>>=◌, count}
use Rattle.reader.specs.declared.boolean.Reader.{Reader}
use Rattle.header.specs.declared.quantizers.Factors.{Factors}
use Rattle.residual.specs.Residual.{Kind, FlagsAt, Model, second_kind_of, kind_of, second_place, coordinates, second, advance, residual_of, residual_answer}
use Rattle.residual.specs.declared.quick.Quick.{Quick}
use Rattle.residual.specs.declared.quick.Passing.{Passing}
pub use Rattle.residual.specs.declared.fast.Spots.{Spots}
use Rattle.wide.specs.declared.wide.Wide.{Wide}

-- what goes from part to part, and the flags
pub record Wider : Type 0 where
  pub next : Wide
  pub reads : ℕ
  pub top : List ℕ
  pub left : List ℕ
  pub empty : Bool

-- as the code has it: the flags beside the rest
abbrev pub wider_of : Passing → (top left : List ℕ) → Wider
wider_of m top left = record { next = m.next; reads = m.reads; top = top; left = left; empty = m.empty }

-- ---- where the numbers stand
-- those of block i: by lanes, sixteen blocks of luma, then eight of chroma
unfoldable pub block_spots : (i : ℕ) → Spots
block_spots i =
    elim (ltb i 16) [
      | true ↦ record { at = i; step = 16 }
      | false ↦ record { at = 240 + i; step = 8 }
    ]

-- those of a part: of the second-order block behind them
abbrev pub spots_at : (j : ℕ) → Spots
spots_at zero = record { at = 384; step = 1 }
spots_at (suc i) = block_spots i

-- number p of the macroblock, counted block after block
abbrev pub number_place : (p : ℕ) → ℕ
number_place p = (block_spots (p / 16)).at + (block_spots (p / 16)).step * (p % 16)

-- the numbers of the macroblock, block after block
unfoldable pub in_blocks : (flat : List ℤ) → List ℤ
in_blocks flat = build 384 (λ p. get_or flat (number_place p) (pos 0))

-- the model that it stands for, with the numbers
abbrev pub model_at : Wider → (flat : List ℤ) → Model
model_at m flat = record { top = m.top; left = m.left; coefficients = in_blocks flat; empty = m.empty }

-- ---- the parts
module _ (f : Factors) (small : Bool) where
  abbrev pub kind_at : (j : ℕ) → Kind
  kind_at zero = second_kind_of f
  kind_at (suc i) = kind_of f small i

abbrev pub place_at : (j : ℕ) → FlagsAt
place_at zero = second_place
place_at (suc i) = coordinates i

module _ (table : List ℕ) (f : Factors) (small : Bool) where
  unfoldable pub quick_part : (j : ℕ) → Model → Reading Model
  quick_part zero m = second table f m
  quick_part (suc i) m = advance table f small i m

  -- n more parts, from part j on
  unfoldable pub parts_from : (n j : ℕ) → Model → Reading Model
  parts_from zero j m = done m
  parts_from (suc n) j m = do
    next ← quick_part j m
    parts_from n (suc j) next

-- ---- the whole: where the end was not passed it is the call's answer and the count of M-103; else nothing is written
abbrev pub QuickWhere : Bool → List ℕ → Reader → List ℕ → Factors → (small : Bool) → (top left : List ℕ) → (old new : List ℤ) → Quick → Type 0
QuickWhere true s r table f small top left old new q =
    (record { answer = q.read.residual; out = new } ≡ residual_answer s r table f small false top left old)
    × (q.read.reads ≡ count (residual_of table f small false top left) s r)
QuickWhere false s r table f small top left old new q = new ≡ old
