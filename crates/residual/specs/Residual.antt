-- The residual of a macroblock (RFC 6386, sections 13, 3338-3348, and 19.3, 7316-7324), as a grammar: the coefficients of its blocks, and
-- the flags that they leave behind for the macroblocks below and to the right.
use Rattle.std.specs.Prelude.{◌+◌, ◌-◌, ◌*◌, ◌/◌, ◌%◌, ◌≤◌, ◌≡◌, ◌&&◌}
use Rattle.numbers.specs.Words.{ℕ, zero, suc, Bool, true, false, eqb, ltb, leb, bit_of, List, length, get_or, set, replicate, build, placed, all_below, ℤ, pos, negsuc, Each, Ok, Err}
use Rattle.header.specs.Header.{probability_count, header_of}
use Rattle.reader.specs.declared.boolean.Reader.{Reader}
use Rattle.reader.specs.declared.boolean.Unread.TheVariants as U
use Rattle.reader.specs.Reading.{Given, given, missing, valid_of, Reading, done, run, ◌>>=◌, count, ReadOf, read_number_of}
use Rattle.header.specs.declared.quantizers.Factors.{Factors}
use Rattle.header.specs.Quantizers.{factors_of_of}
use Rattle.coefficients.specs.Block.{Coefficients, block, header_table}
use Rattle.transform.specs.Transform.{samples_of}
use Rattle.transform.specs.Lanes.{macroblock_lanes}
pub use Rattle.residual.specs.declared.answers.Residual.{Residual}
pub use Rattle.residual.specs.declared.blocks.Kind.{Kind}
pub use Rattle.residual.specs.declared.contexts.FlagsAt.{FlagsAt}

-- What goes from block to block. Nine flags above and nine to the left say which neighbouring blocks had coefficients: 0..3 luma, 4..5 U,
-- 6..7 V, 8 the second-order block. The 384 coefficients stand block after block: 16 of luma, 4 of U, 4 of V, sixteen numbers each.
pub record Model : Type 0 where
  pub top : List ℕ
  pub left : List ℕ
  pub coefficients : List ℤ
  pub empty : Bool

-- its range: nine flags, each 0 or 1, and 384 coefficients of 16 bits
pub record Flags (l : List ℕ) : Type 0 where
  pub long : length l ≡ 9
  pub each : (i : ℕ) → get_or l i 0 ≤ 1

pub record ModelInRange (m : Model) : Type 0 where
  pub top : Flags m.top
  pub left : Flags m.left
  pub long : length m.coefficients ≡ 384
  pub each : Each (negsuc 32767) (pos 32767) m.coefficients

-- before the first block
abbrev pub initial : (top left : List ℕ) → Model
initial top left = record { top = top; left = left; coefficients = replicate 384 (pos 0); empty = true }

-- ---- a block's sixteen coefficients, from a place on
unfoldable pub sixteen_at : List ℤ → (at : ℕ) → List ℤ
sixteen_at l at = build 16 (λ j. get_or l (at + j) (pos 0))

-- sixteen others put there
abbrev pub stored : List ℤ → (at : ℕ) → (c : List ℤ) → List ℤ
stored l at c = placed l at (λ j. get_or c j (pos 0)) 16

-- ---- where a block's flags are (section 13.3, 3573-3582 and 3614-3626): its column's above, its row's to the left
unfoldable pub coordinates : (i : ℕ) → FlagsAt
coordinates i =
    elim (ltb i 16) [
      | true ↦ record { x = i % 4; y = i / 4 }
      | false ↦ let base = 4 + (i - 16) / 4 * 2 in record { x = base + i % 2; y = base + i % 4 / 2 }
    ]

-- ---- what a block's tokens go by (section 13.3, 3535-3549): the kind of its probabilities, its first position, its factors
-- the second-order block, Y2
abbrev pub second_kind_of : Factors → Kind
second_kind_of f = record { kind = 1; first = 0; q0 = f.y2dc; q1 = f.y2ac }

-- luma with its first coefficient from Y2, and with its own where the modes are small
abbrev pub luma_kind : Factors → (small : Bool) → Kind
luma_kind f false = record { kind = 0; first = 1; q0 = f.ydc; q1 = f.yac }
luma_kind f true = record { kind = 3; first = 0; q0 = f.ydc; q1 = f.yac }

-- of block i: luma, then chroma, U and V alike
unfoldable pub kind_of : Factors → (small : Bool) → (i : ℕ) → Kind
kind_of f small i =
    elim (ltb i 16) [
      | true ↦ luma_kind f small
      | false ↦ record { kind = 2; first = 0; q0 = f.uvdc; q1 = f.uvac }
    ]

-- ---- one block
-- its tokens, in the context of its two flags, on the sixteen numbers that stand there
abbrev pub coded : (table : List ℕ) → Kind → FlagsAt → (top left : List ℕ) → (old : List ℤ) → Reading Coefficients
coded table k p top left old = block table k.kind k.q0 k.q1 (get_or top p.x 0 + get_or left p.y 0) k.first old

-- after it both flags are 1 where it ended past its first position (source 20.16, 13289-13292; section 13.3, 3576, asks for a non-zero number)
abbrev pub flagged : Kind → FlagsAt → (end : ℕ) → (coefficients : List ℤ) → (empty : Bool) → Model → Model
flagged k p end coefficients empty m =
    let flag = bit_of (ltb k.first end) in
    record { top = set m.top p.x flag; left = set m.left p.y flag; coefficients = coefficients; empty = empty }

-- ---- the second-order block, from sixteen zeros: its inverse Walsh transform gives the first coefficient of each luma block (section 14.2,
-- 4321-4325: the result at row i, column j goes to block 4i + j)
-- the first n numbers of dc, each at the start of its block
unfoldable pub spread : (l dc : List ℤ) → (n : ℕ) → List ℤ
spread l dc zero = l
spread l dc (suc k) = set (spread l dc k) (16 * k) (get_or dc k (pos 0))

-- flag 8 on either side
abbrev pub second_place : FlagsAt
second_place = record { x = 8; y = 8 }

-- its tokens, its transform spread over the luma blocks, its flag
unfoldable pub second : (table : List ℕ) → Factors → Model → Reading Model
second table f m = do
  c ← coded table (second_kind_of f) second_place m.top m.left (replicate 16 (pos 0))
  done (flagged (second_kind_of f) second_place c.end (spread m.coefficients (samples_of true c.values) 16) m.empty m)

-- ---- block i of the 24
-- whether a number is 0
abbrev pub zero_of : ℤ → Bool
zero_of (pos zero) = true
zero_of (pos (suc n)) = false
zero_of (negsuc n) = false

-- it leaves the macroblock empty where its end is at most 1 and its first coefficient is 0: coded zeros past it are something
abbrev pub empty_of : Coefficients → Bool
empty_of c = leb c.end 1 && zero_of (get_or c.values 0 (pos 0))

module _ (table : List ℕ) (f : Factors) (small : Bool) where
  -- block i's tokens, its numbers stored, its flag, whether all is still empty
  unfoldable pub advance : (i : ℕ) → Model → Reading Model
  advance i m = do
    c ← coded table (kind_of f small i) (coordinates i) m.top m.left (sixteen_at m.coefficients (16 * i))
    done (flagged (kind_of f small i) (coordinates i) c.end (stored m.coefficients (16 * i) c.values) (m.empty && empty_of c) m)

  -- n more blocks, from block i on
  unfoldable pub blocks_from : (n i : ℕ) → Model → Reading Model
  blocks_from zero i m = done m
  blocks_from (suc n) i m = do
    next ← advance i m
    blocks_from n (i + 1) next

-- ---- the macroblock
-- small modes have no second-order block
abbrev pub dc_stage_of : (table : List ℕ) → Factors → (small : Bool) → Model → Reading Model
dc_stage_of table f true m = done m
dc_stage_of table f false m = second table f m

-- a macroblock that is skipped has no coefficients (section 13.1, 3374-3376), and clears its flags; that of the second-order block stays where it
-- has none (section 13.3, 3577-3582)
abbrev pub cleared : (small : Bool) → (flags : List ℕ) → List ℕ
cleared true flags = set (replicate 9 0) 8 (get_or flags 8 0)
cleared false flags = replicate 9 0

-- nothing is read of a macroblock that is skipped; else Y2 where it has one, then 24 blocks
unfoldable pub residual_of : (table : List ℕ) → Factors → (small skip : Bool) → (top left : List ℕ) → Reading Model
residual_of table f small true top left = done (initial (cleared small top) (cleared small left))
residual_of table f small false top left = do
  m ← dc_stage_of table f small (initial top left)
  blocks_from table f small 24 0 m

-- ---- blocks that stand one after the other, laid by lanes into memory: the first m numbers of the n blocks from a place on
abbrev pub laid_from : (l c : List ℤ) (n from m : ℕ) → List ℤ
laid_from l c n from m = placed l from (λ p. get_or c (from + (16 * (p % n) + p / n)) (pos 0)) m

-- ---- the calls: the answer, and the 384 numbers that were lent, which are written only where the macroblock has ended
pub record ResidualCalled : Type 0 where
  pub answer : Residual
  pub out : List ℤ

-- the answer where it has not ended: zeros
abbrev pub no_residual_of : ReadOf Bool → Residual
no_residual_of a = record { answer = a; top = replicate 9 0; left = replicate 9 0 }

-- a run as an answer, and the lent numbers after it: the coefficients by lanes
abbrev pub to_residual_called : (old : List ℤ) → Given Model → ResidualCalled
to_residual_called old (given m r) = record { answer = record { answer = Ok (m.empty, r); top = m.top; left = m.left }; out = macroblock_lanes m.coefficients }
to_residual_called old missing = record { answer = no_residual_of (Err U.Missing); out = old }

-- a refusal: the lent numbers are as they were
abbrev pub refused_residual : (old : List ℤ) → ResidualCalled
refused_residual old = record { answer = no_residual_of (Err U.Refused); out = old }

-- each flag is 0 or 1
abbrev pub flags_of : List ℕ → Bool
flags_of l = all_below 9 (λ i. leb (get_or l i 0) 1)

-- 1056 probabilities, flags of 0 and 1, room for 384 numbers
abbrev pub residual_arguments : (table : List ℕ) → (top left : List ℕ) → (size : ℕ) → Bool
residual_arguments table top left size = eqb (length table) probability_count && (flags_of top && (flags_of left && eqb size 384))

module _ (s : List ℕ) (r : Reader) where
  -- with the arguments in range
  unfoldable pub residual_answer : (table : List ℕ) → Factors → (small skip : Bool) → (top left : List ℕ) → (old : List ℤ) → ResidualCalled
  residual_answer table f small skip top left old = to_residual_called old (run (residual_of table f small skip top left) s r)

  -- `decode`: refused where the reader, the table's length, a flag or the length of the lent numbers is out of range
  unfoldable pub residual_call_of : (table : List ℕ) → Factors → (small skip : Bool) → (top left : List ℕ) → (old : List ℤ) → ResidualCalled
  residual_call_of table f small skip top left old =
      elim (valid_of s r && residual_arguments table top left (length old)) [
        | true ↦ residual_answer table f small skip top left old
        | false ↦ refused_residual old
      ]

  -- `decode_header`: refused too where the header is not fine or there is no such segment
  unfoldable pub residual_by_header_of : (h : List ℤ) → (segment : ℕ) → (small skip : Bool) → (top left : List ℕ) → (old : List ℤ) → ResidualCalled
  residual_by_header_of h segment small skip top left old =
      elim (header_of h && ltb segment 4) [
        | true ↦ residual_call_of (header_table h) (factors_of_of h segment) small skip top left old
        | false ↦ refused_residual old
      ]

-- ---- how many symbols the calls read (M-103): those of the grammar, up to one that is missing; none where they refuse
module _ (s : List ℕ) (r : Reader) where
  unfoldable pub residual_reads : (table : List ℕ) → Factors → (small skip : Bool) → (top left : List ℕ) → (old : List ℤ) → ℕ
  residual_reads table f small skip top left old =
      elim (valid_of s r && residual_arguments table top left (length old)) [
        | true ↦ count (residual_of table f small skip top left) s r
        | false ↦ 0
      ]

  -- `decode_header`: none too where the header is not fine or there is no such segment
  unfoldable pub residual_by_header_reads : (h : List ℤ) → (segment : ℕ) → (small skip : Bool) → (top left : List ℕ) → (old : List ℤ) → ℕ
  residual_by_header_reads h segment small skip top left old =
      elim (header_of h && ltb segment 4) [
        | true ↦ residual_reads (header_table h) (factors_of_of h segment) small skip top left old
        | false ↦ 0
      ]

-- ---- the answer's number: 7 where the tokens run out, 9 for a refusal
abbrev pub residual_number_of : ReadOf Bool → ℕ
residual_number_of = read_number_of 7
