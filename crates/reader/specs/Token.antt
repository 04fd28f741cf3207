-- One token of a block (RFC 6386, section 13.2, 3393-3446): coeff_tree and its walk.
use Rattle.std.specs.Prelude.{◌+◌, ◌&&◌, ◌∷◌}
use Rattle.numbers.specs.Words.{ℕ, Bool, true, false, leb, List, [], length, take, drop, ℤ, Err}
use Rattle.reader.specs.Reading.{Reader, ReadOf, to_read, valid_of, Reading, run}
use Rattle.reader.specs.Trees.{node, leaf, walk}
use Rattle.reader.specs.declared.boolean.Unread.TheVariants as U

-- 0 ends the block, 1 is a zero, 2..5 are one to four, 6..11 the six categories: the RFC's numbers (3397-3410: DCT_0 is 0, dct_eob 11) are
-- one less, but for the end. Its coeff_tree (3423-3439), two entries a node: positive names a node, zero or less a token.
abbrev pub token_tree : List ℤ
token_tree =
    leaf 0 ∷ node 1  -- node 0: the end
    ∷ leaf 1 ∷ node 2  -- 1: a zero
    ∷ leaf 2 ∷ node 3  -- 2: one
    ∷ node 4 ∷ node 6  -- 3: at most four, or a category
    ∷ leaf 3 ∷ node 5  -- 4: two
    ∷ leaf 4 ∷ leaf 5  -- 5: three, four
    ∷ node 7 ∷ node 8  -- 6: the first two categories, or a later one
    ∷ leaf 6 ∷ leaf 7  -- 7: categories 1, 2
    ∷ node 9 ∷ node 10  -- 8
    ∷ leaf 8 ∷ leaf 9  -- 9: categories 3, 4
    ∷ leaf 10 ∷ leaf 11  -- 10: categories 5, 6
    ∷ []

-- a block never ends after a zero: there the walk starts at node 1 (3443-3446)
abbrev pub token_start : Bool → ℕ
token_start true = 1
token_start false = 0

-- the walk with its eleven probabilities, after a zero or not
abbrev pub token : List ℕ → Bool → Reading ℕ
token ps z = walk 32 ps token_tree (token_start z)

-- its eleven probabilities, from `at` on in a table
unfoldable pub eleven_at : List ℕ → ℕ → List ℕ
eleven_at table at = take 11 (drop at table)

-- one token, read from a partition
unfoldable pub token_of : List ℕ → List ℕ → Bool → Reader → ReadOf ℕ
token_of s ps z r = to_read (run (token ps z) s r)

-- `walk_token`: refused where the reader is out of range or the table has not eleven probabilities from `at` on
unfoldable pub token_answer : List ℕ → List ℕ → ℕ → Bool → Reader → ReadOf ℕ
token_answer s table at z r = elim (valid_of s r && leb (at + 11) (length table)) [ true ↦ token_of s (eleven_at table at) z r | false ↦ Err U.Refused ]
