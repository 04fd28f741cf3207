-- A macroblock's modes: their grammars, what the calls answer, what neighbours see.
use Rattle.std.specs.Prelude.{◌+◌, ◌-◌, ◌/◌, ◌%◌, ◌<◌, ◌∷◌, ◌≡◌, ◌&&◌, ◌≤◌}
use Rattle.numbers.specs.Words.{ℕ, zero, suc, Bool, true, false, not, eqb, ltb, List, [], get_or, set, replicate, ℤ, length, all_of, bit_of, Result, Ok, Err}
use Rattle.reader.specs.Reading.{Reading, done, ◌>>=◌, symbol, Given, given, missing, ReadOf, to_read, valid_of, run, count}
use Rattle.header.specs.declared.frame.Announced.{Announced}
use Rattle.reader.specs.Trees.{node, leaf, walk}
pub use Rattle.modes.specs.declared.answers.Prefix.{Prefix}
use Rattle.modes.specs.Table.{probabilities}
use Rattle.header.specs.Header.{entry_count}
use Rattle.header.specs.Frame.{announced_of}
use Rattle.reader.specs.declared.boolean.Reader.{Reader}
use Rattle.reader.specs.declared.boolean.Unread.{Unread}
use Rattle.reader.specs.declared.boolean.Unread.TheVariants as U
use Rattle.reader.specs.TreesLaws.{leaves_reached}
pub use Rattle.modes.specs.declared.answers.Kinds.{Kinds}
pub use Rattle.modes.specs.declared.contexts.Context.{Context}

-- ==== The modes of a macroblock as grammars, in the order of RFC 6386, section 19.3, 7239-7272. Large modes are 0 DC, 1 TM, 2 V, 3 H; small modes
-- 0 DC, 1 TM, 2 VE, 3 HE, 4 RD, 5 VR, 6 LD, 7 VL, 8 HD, 9 HU. So a large mode is also the small mode that its neighbours see.

-- ---- the trees: node i is entries 2i and 2i + 1, each a node or a leaf, which is a mode
-- mb_segment_tree (section 10, 2305-2310)
abbrev pub seg_tree : List ℤ
seg_tree = node 1 ∷ node 2 ∷ leaf 0 ∷ leaf 1 ∷ leaf 2 ∷ leaf 3 ∷ []

-- kf_ymode_tree below its root, which asks whether the modes are small (section 11.2, 2375-2383): DC or V, H or TM
abbrev pub y_tree : List ℤ
y_tree = node 1 ∷ node 2 ∷ leaf 0 ∷ leaf 2 ∷ leaf 3 ∷ leaf 1 ∷ []

-- uv_mode_tree (section 11.4, 2563-2570): DC, V, H or TM
abbrev pub uv_tree : List ℤ
uv_tree = leaf 0 ∷ node 1 ∷ leaf 2 ∷ node 2 ∷ leaf 3 ∷ leaf 1 ∷ []

-- bmode_tree (section 11.2, 2442-2455): DC, TM, VE; then HE, RD, VR or LD, VL, HD, HU
abbrev pub b_tree : List ℤ
b_tree =
    leaf 0 ∷ node 1 ∷ leaf 1 ∷ node 2 ∷ leaf 2 ∷ node 3 ∷ node 4 ∷ node 6 ∷ leaf 3 ∷ node 5 ∷ leaf 4 ∷ leaf 5 ∷ leaf 6 ∷ node 7
    ∷ leaf 7 ∷ node 8 ∷ leaf 8 ∷ leaf 9 ∷ []

-- a tree read from its root, with a probability for each node
abbrev pub tree : List ℕ → List ℤ → Reading ℕ
tree ps t = walk 32 ps t 0

-- what is read only where it is present; else a value that stands for it
abbrev pub optional : {A : Type 0} → Bool → A → Reading A → Reading A
optional true a m = m
optional false a m = done a

-- ---- before the modes
-- segment_id: read where the frame has a map (section 10, 2289-2293)
unfoldable pub segment : Announced → Reading ℕ
segment a = optional a.map 0 (tree a.map_probabilities seg_tree)

-- mb_skip_coeff: read where the frame has the flag (section 11.1, 2331-2333)
unfoldable pub skip : Announced → Reading Bool
skip a = optional a.skips false (symbol a.skip_probability)

-- kf_ymode_tree's root: 0 where the modes are small (B_PRED; 2377, kf_ymode_prob 2392)
unfoldable pub prefix : Announced → Reading Prefix
prefix a = do
  segment ← segment a
  skip ← skip a
  large ← symbol 145
  done (record { segment = segment; skip = skip; small = not large })

-- ---- the modes
-- the luma mode of a macroblock that is not small, kf_ymode_prob (2392); or its chroma mode, kf_uv_mode_prob (2588)
abbrev pub large_mode_of : Bool → Reading ℕ
large_mode_of false = tree (156 ∷ 163 ∷ 128 ∷ []) y_tree
large_mode_of true = tree (142 ∷ 114 ∷ 183 ∷ []) uv_tree

-- a small mode, by the modes above it and left of it (intra_b_mode; section 11.3, 2534-2549)
abbrev pub block_mode_of : ℕ → ℕ → Reading ℕ
block_mode_of above left = tree (probabilities above left) b_tree

-- the mode above small block i, and the mode left of it; `modes` are those read so far, in rows of four
unfoldable pub mode_above_of : List ℕ → List ℕ → ℕ → ℕ
mode_above_of above modes i = elim (ltb i 4) [ true ↦ get_or above i 0 | false ↦ get_or modes (i - 4) 0 ]

-- left of block i: the macroblock's neighbour at the left edge, else the mode before it
unfoldable pub mode_left_of : List ℕ → List ℕ → ℕ → ℕ
mode_left_of left modes i = elim (eqb (i % 4) 0) [ true ↦ get_or left (i / 4) 0 | false ↦ get_or modes (i - 1) 0 ]

-- every one a mode; past the end `get_or` gives 0, so no index has to be within the list
abbrev pub Modes : List ℕ → Type 0
Modes l = (j : ℕ) → get_or l j 0 < 10

-- n more small modes, from block i on
unfoldable pub small_from : ℕ → ℕ → List ℕ → List ℕ → List ℕ → Reading (List ℕ)
small_from zero i above left modes = done modes
small_from (suc n) i above left modes = do
  m ← block_mode_of (mode_above_of above modes i) (mode_left_of left modes i)
  small_from n (i + 1) above left (set modes i m)

-- before the first is read
abbrev pub zeros : List ℕ
zeros = replicate 16 0

-- all sixteen, in raster order
unfoldable pub small_modes_of : List ℕ → List ℕ → Reading (List ℕ)
small_modes_of above left = small_from 16 0 above left zeros

-- the sixteen luma modes: small ones, or a large one for all
abbrev pub luma : Bool → List ℕ → List ℕ → Reading (List ℕ)
luma true above left = small_modes_of above left
luma false above left = do
  m ← large_mode_of false
  done (replicate 16 m)

-- all that is read of a macroblock in the first partition
pub record Macroblock : Type 0 where
  pub segment : ℕ
  pub skip : Bool
  pub small : Bool
  pub modes : List ℕ
  pub chroma : ℕ

-- the order of section 19.3, 7241-7271: what stands before the modes, luma, chroma
unfoldable pub modes_of : Announced → List ℕ → List ℕ → Reading Macroblock
modes_of a above left = do
  p ← prefix a
  modes ← luma p.small above left
  chroma ← large_mode_of true
  done (record { segment = p.segment; skip = p.skip; small = p.small; modes = modes; chroma = chroma })

-- ---- what a macroblock leaves to its neighbours (section 11.3, 2498-2508): its last row to the one below, its last column to the one at its right
abbrev pub bottom_of : List ℕ → List ℕ
bottom_of modes = get_or modes 12 0 ∷ get_or modes 13 0 ∷ get_or modes 14 0 ∷ get_or modes 15 0 ∷ []

-- its last column
abbrev pub right_of : List ℕ → List ℕ
right_of modes = get_or modes 3 0 ∷ get_or modes 7 0 ∷ get_or modes 11 0 ∷ get_or modes 15 0 ∷ []

-- ==== What the calls answer: the grammars run over a reader, with the checks of the arguments; and the answers' numbers.

-- ---- a run as an answer (`to_read`); where an array is lent, it holds `old` unless all is read
pub record Sixteen : Type 0 where
  pub answer : Result Reader Unread
  pub modes : List ℕ

-- the same for all of a macroblock's modes
pub record Staged : Type 0 where
  pub answer : ReadOf Kinds
  pub modes : List ℕ

-- the sixteen small modes
abbrev pub to_sixteen : List ℕ → Given (List ℕ) → Sixteen
to_sixteen old (given l r) = record { answer = Ok r; modes = l }
to_sixteen old missing = record { answer = Err U.Missing; modes = old }

-- all of a macroblock's modes but the sixteen
abbrev pub kinds_of : Macroblock → Kinds
kinds_of m = record { segment = m.segment; skip = m.skip; small = m.small; chroma = m.chroma }

-- and with the sixteen
abbrev pub macroblock_of : Kinds → List ℕ → Macroblock
macroblock_of k modes = record { segment = k.segment; skip = k.skip; small = k.small; modes = modes; chroma = k.chroma }

-- all of a macroblock's modes
abbrev pub to_staged : List ℕ → Given Macroblock → Staged
to_staged old (given m r) = record { answer = Ok (kinds_of m, r); modes = m.modes }
to_staged old missing = record { answer = Err U.Missing; modes = old }

-- ---- the calls: refused where the reader, a header's length or a mode beside the macroblock is out of range
abbrev pub each_below_of : ℕ → List ℕ → Bool
each_below_of m l = all_of (λ x. ltb x m) l

-- every mode above and to the left is one of the ten
abbrev pub contexts_of : List ℕ → List ℕ → Bool
contexts_of above left = each_below_of 10 above && each_below_of 10 left

-- `prefix`
unfoldable pub prefix_answer : List ℕ → Reader → List ℤ → ReadOf Prefix
prefix_answer s r h = elim (eqb (length h) entry_count && valid_of s r) [ true ↦ to_read (run (prefix (announced_of h)) s r) | false ↦ Err U.Refused ]

-- `main_mode`
unfoldable pub main_answer : List ℕ → Reader → Bool → ReadOf ℕ
main_answer s r chroma = elim (valid_of s r) [ true ↦ to_read (run (large_mode_of chroma) s r) | false ↦ Err U.Refused ]

-- `block_mode`
unfoldable pub block_answer : List ℕ → Reader → ℕ → ℕ → ReadOf ℕ
block_answer s r above left =
    elim (valid_of s r && (ltb above 10 && ltb left 10)) [ true ↦ to_read (run (block_mode_of above left) s r) | false ↦ Err U.Refused ]

-- `small_modes`
unfoldable pub small_answer : List ℕ → Reader → List ℕ → List ℕ → List ℕ → Sixteen
small_answer s r above left old =
    elim (valid_of s r && contexts_of above left) [
      | true ↦ to_sixteen old (run (small_modes_of above left) s r)
      | false ↦ record { answer = Err U.Refused; modes = old }
    ]

-- `read_modes`
unfoldable pub modes_answer : List ℕ → Announced → Reader → List ℕ → List ℕ → List ℕ → Staged
modes_answer s a r above left old =
    elim (valid_of s r && contexts_of above left) [
      | true ↦ to_staged old (run (modes_of a above left) s r)
      | false ↦ record { answer = Err U.Refused; modes = old }
    ]

-- ---- the number of `small_modes`: 6 where a byte is missing, 9 where an argument is out of range; `read_number_of 6` is the other calls'
abbrev pub next_number_of : Result Reader Unread → ℕ
next_number_of (Ok r) = 0
next_number_of (Err U.Missing) = 6
next_number_of (Err U.Refused) = 9

-- every leaf fits a byte
unfoldable pub byte_leaves : List ℤ → Bool
byte_leaves t = leaves_reached 32 (λ v. ltb v 256) t 0

-- sixteen modes; where they are not small, one large mode for all
pub record Luma (small : Bool) (l : List ℕ) : Type 0 where
  pub sixteen : length l ≡ 16
  pub each : Modes l
  pub large : small ≡ false → (l ≡ replicate 16 (get_or l 0 0)) × (get_or l 0 0 < 4)

-- a macroblock with every value in range
pub record InRange (m : Macroblock) : Type 0 where
  pub segment : m.segment < 4
  pub luma : Luma m.small m.modes
  pub chroma : m.chroma < 4

-- ==== What a macroblock leaves to the one below it and the one right of it: four modes, nine flags.

-- outside the picture: every mode DC (RFC 6386, section 11.3, 2490-2493), no coefficients (section 13.3, 3608-3612)
abbrev pub empty_context : Context
empty_context = record { modes = replicate 4 0; flags = replicate 9 0 }

-- in range
abbrev pub context_fine_of : Context → Bool
context_fine_of c = each_below_of 10 c.modes && each_below_of 2 c.flags

-- it has as many
pub record Shaped (c : Context) : Type 0 where
  pub modes : length c.modes ≡ 4
  pub flags : length c.flags ≡ 9

-- ==== How many symbols the modes of a macroblock read (M-103).

-- `read_modes`: all of them, or those before the missing one; none where the arguments are refused
unfoldable pub modes_reads : List ℕ → Announced → Reader → List ℕ → List ℕ → ℕ
modes_reads s a r above left = elim (valid_of s r && contexts_of above left) [ true ↦ count (modes_of a above left) s r | false ↦ 0 ]

-- what a part of it tells: its grammar's outcome, as an answer, and how many symbols it read, at most k
abbrev pub Told : {A B : Type 0} → (Given A → B) → ℕ → Reading A → List ℕ → Reader → B → ℕ → Type 0
Told to k m s r answer reads = (answer ≡ to (run m s r)) × ((reads ≡ count m s r) × (reads ≤ k))

-- ---- the same of modes that were read, by what they are
-- two symbols for a segment, one for the skip flag, where the frame has them; one tells small modes from a large one
abbrev pub prefix_reads_of : Announced → ℕ
prefix_reads_of a = bit_of a.map + bit_of a.map + bit_of a.skips + 1

-- how deep each mode stands in its tree (RFC 6386, sections 11.2, 2375-2455, and 11.4, 2563-2570): a large luma mode two symbols below that
-- one; the chroma modes DC, TM, V, H; the small modes DC, TM, VE, HE, RD, VR, LD, VL, HD, HU
abbrev pub large_reads : Bool → ℕ → ℕ
large_reads false mode = 2
large_reads true mode = get_or (1 ∷ 3 ∷ 2 ∷ 3 ∷ []) mode 0

abbrev pub small_depths : List ℕ
small_depths = 1 ∷ 2 ∷ 3 ∷ 5 ∷ 6 ∷ 6 ∷ 5 ∷ 6 ∷ 7 ∷ 7 ∷ []

-- the first n of a macroblock's small modes
unfoldable pub small_reads_of : ℕ → List ℕ → ℕ
small_reads_of zero modes = 0
small_reads_of (suc n) modes = small_reads_of n modes + get_or small_depths (get_or modes n 0) 0

abbrev pub luma_reads_of : Bool → List ℕ → ℕ
luma_reads_of true modes = small_reads_of 16 modes
luma_reads_of false modes = 2

abbrev pub modes_read_of : Announced → Macroblock → ℕ
modes_read_of a m = prefix_reads_of a + luma_reads_of m.small m.modes + large_reads true m.chroma
