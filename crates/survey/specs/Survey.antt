-- The survey over a delivery (request M-110): a record of 37 counts, into which a call folds what its picture call shows. The tables of a
-- record, by their first place: pictures by answer 0..7 (0); the finished macroblocks by segment (8), by large mode DC, TM, V, H with small as
-- a fifth (12), by chroma mode (17), by skip (21), by inside byte (23); the small ones' sub-blocks by mode (25); the symbols of the first
-- partition (35) and of token partitions (36).
use Rattle.std.specs.Prelude.{◌+◌, ◌<◌, ◌&&◌, ◌∷◌, ◌++◌}
use Rattle.numbers.specs.Words.{ℕ, zero, suc, Bool, true, false, eqb, leb, bit_of, List, [], length, get_or, build}
use Rattle.lent.specs.Memory.{Memory, mode_found, strength_found}
use Rattle.macroblock.specs.declared.arguments.SymbolCounts.{SymbolCounts}
use Rattle.macroblock.specs.Macroblock.{no_reads}
use Rattle.choices.specs.Choices.{Call, number_of, values_of}
use Rattle.picture.specs.Picture.{Ended, picture_of, cost_of}
use Rattle.survey.specs.declared.Surveyed.{Surveyed}

-- ---- counting
-- f 0 + f 1 + .. + f (n - 1)
unfoldable pub sum_to : (n : ℕ) → (ℕ → ℕ) → ℕ
sum_to zero f = 0
sum_to (suc n) f = sum_to n f + f n

-- 1 where a value is x
unfoldable pub same : (value x : ℕ) → ℕ
same value x = bit_of (eqb value x)

-- how many of the first n have the value x
abbrev pub how_many : (n : ℕ) → (value : ℕ → ℕ) → (x : ℕ) → ℕ
how_many n value x = sum_to n (λ k. same (value k) x)

-- ---- what the records of macroblock k say
-- its segment
abbrev pub segment_at : List ℕ → ℕ → ℕ
segment_at modes k = (mode_found modes k).kinds.segment

-- whether its modes are small
abbrev pub small_at : List ℕ → ℕ → Bool
small_at modes k = (mode_found modes k).kinds.small

-- the mode of its sub-block i; a large one has its mode in all sixteen
abbrev pub sub_mode_at : List ℕ → (k i : ℕ) → ℕ
sub_mode_at modes k i = get_or (mode_found modes k).modes i 0

-- a large mode by its number, small as a fifth
unfoldable pub luma_of : (small : Bool) → (mode : ℕ) → ℕ
luma_of small mode = elim small [ true ↦ 4 | false ↦ mode ]

-- its luma mode
abbrev pub luma_at : List ℕ → ℕ → ℕ
luma_at modes k = luma_of (small_at modes k) (sub_mode_at modes k 0)

-- its chroma mode
abbrev pub chroma_at : List ℕ → ℕ → ℕ
chroma_at modes k = (mode_found modes k).kinds.chroma

-- 1 where it is skipped
abbrev pub skip_at : List ℕ → ℕ → ℕ
skip_at modes k = bit_of (mode_found modes k).kinds.skip

-- its inside byte
abbrev pub inside_at : List ℕ → ℕ → ℕ
inside_at strengths k = (strength_found strengths k).strength.inside

-- a small macroblock's sub-blocks with mode x; a large one counts none
unfoldable pub sub_blocks : (small : Bool) → (mode : ℕ → ℕ) → (x : ℕ) → ℕ
sub_blocks small mode x = elim small [ true ↦ how_many 16 mode x | false ↦ 0 ]

-- those of the first n macroblocks
abbrev pub sub_blocks_to : ℕ → List ℕ → (x : ℕ) → ℕ
sub_blocks_to n modes x = sum_to n (λ k. sub_blocks (small_at modes k) (sub_mode_at modes k) x)

-- the total of the table of `rows` counts that starts at `table`
abbrev pub total_of : (table rows : ℕ) → List ℕ → ℕ
total_of table rows l = sum_to rows (λ x. get_or l (table + x) 0)

-- ---- one picture
-- what a picture counts, table after table: its answer, its n finished macroblocks, its symbols
unfoldable pub tallied_of : (number n : ℕ) → SymbolCounts → (modes strengths : List ℕ) → List ℕ
tallied_of number n reads modes strengths =
    build 8 (same number)
    ++ (build 4 (how_many n (segment_at modes))
    ++ (build 5 (how_many n (luma_at modes))
    ++ (build 4 (how_many n (chroma_at modes))
    ++ (build 2 (how_many n (skip_at modes))
    ++ (build 2 (how_many n (inside_at strengths))
    ++ (build 10 (sub_blocks_to n modes)
    ++ (reads.first ∷ reads.tokens ∷ [])))))))

-- the same of a call: its picture call's answer, the mode and strength memory that it left, its costs (M-103)
abbrev pub added_of : Call → Memory → List ℕ
added_of c m =
    let e = picture_of c m in
    tallied_of (number_of e.answer) (values_of e.answer) (cost_of c m) e.mem.modes e.mem.strengths

-- ---- adding
-- no count passes 2^63-1
abbrev pub count_limit : ℕ
count_limit = 9223372036854775807

-- the sums of the first i counts all fit
unfoldable pub fits_to : (l a : List ℕ) → ℕ → Bool
fits_to l a zero = true
fits_to l a (suc i) = fits_to l a i && leb (get_or l i 0 + get_or a i 0) count_limit

-- one of the first n sums does not
pub record Passed (l a : List ℕ) (n : ℕ) : Type 0 where
  pub place : ℕ
  pub inside : place < n
  pub passes : count_limit < get_or l place 0 + get_or a place 0

-- the sums, place by place
unfoldable pub sum_of : (l a : List ℕ) → List ℕ
sum_of l a = build 37 (λ i. get_or l i 0 + get_or a i 0)

-- the answer of an addition, with the record
pub record Added : Type 0 where
  pub number : ℕ
  pub counts : List ℕ

-- `add`: 9 where one has not 37 counts, 15 where a sum would pass; then the record is unchanged
unfoldable pub add_of : (l a : List ℕ) → Added
add_of l a =
    elim (eqb (length l) 37 && eqb (length a) 37) [
      | false ↦ record { number = 9; counts = l }
      | true ↦ elim (fits_to l a 37) [ true ↦ record { number = 0; counts = sum_of l a } | false ↦ record { number = 15; counts = l } ]
    ]

-- ---- the answer, with the lent memory and the record
pub record SurveyEnded : Type 0 where
  pub answer : Surveyed
  pub mem : Memory
  pub counts : List ℕ

-- the three as one
abbrev pub survey_ended : Surveyed → Memory → List ℕ → SurveyEnded
survey_ended answer mem counts = record { answer = answer; mem = mem; counts = counts }

-- the picture call's number where the addition gave 0, else the addition's
unfoldable pub told_of : (number full : ℕ) → ℕ
told_of number full = elim full [ zero ↦ number | suc n ↦ suc n ]

-- a picture call that ended so, its costs, and the addition of what it counts
abbrev pub folded_of : Ended → SymbolCounts → Added → SurveyEnded
folded_of e reads a = survey_ended (record { number = told_of (number_of e.answer) a.number; finished = values_of e.answer; reads = reads }) e.mem a.counts

-- THE CALL: 9 before the picture call; else the picture call, then 15 where a count would pass, or its counts added
unfoldable pub survey_of : Call → Memory → List ℕ → SurveyEnded
survey_of c m l =
    elim (eqb (length l) 37) [
      | false ↦ survey_ended (record { number = 9; finished = 0; reads = no_reads }) m l
      | true ↦ folded_of (picture_of c m) (cost_of c m) (add_of l (added_of c m))
    ]
