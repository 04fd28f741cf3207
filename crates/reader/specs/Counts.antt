-- How many symbols the calls say that a walk, a token or a number reads (M-103); 0 where the arguments are refused. And
-- grammars whose value alone says how many symbols were read.
use Rattle.std.specs.Prelude.{◌+◌, ◌≡◌, ◌&&◌, ◌∷◌}
use Rattle.numbers.specs.Words.{ℕ, suc, Bool, true, false, leb, List, [], length, ℤ}
use Rattle.reader.specs.Reading.{Reader, Given, valid_of, Reading, done, ask, run, count}
use Rattle.reader.specs.Trees.{walk, tree_of}
use Rattle.reader.specs.Token.{token, eleven_at}
use Rattle.reader.specs.Extra.{extra}

-- ---- the calls' counts
-- `walk_tree`
unfoldable pub tree_count : List ℕ → List ℕ → List ℤ → ℕ → Reader → ℕ
tree_count s ps t start r = elim (valid_of s r && tree_of ps t start) [ true ↦ count (walk 32 ps t start) s r | false ↦ 0 ]

-- `walk_token`
unfoldable pub token_count : List ℕ → List ℕ → ℕ → Bool → Reader → ℕ
token_count s table at z r = elim (valid_of s r && leb (at + 11) (length table)) [ true ↦ count (token (eleven_at table at) z) s r | false ↦ 0 ]

-- `extra_bits`
unfoldable pub extra_count : List ℕ → List ℕ → Reader → ℕ
extra_count s ps r = elim (valid_of s r && leb (length ps) 16) [ true ↦ count (extra ps) s r | false ↦ 0 ]

-- ---- a run with its count: from the reader r it gives x, and n symbols are read
pub record Took {A : Type 0} (m : Reading A) (s : List ℕ) (r : Reader) (x : Given A) (n : ℕ) : Type 0 where
  pub gave : run m s r ≡ x
  pub took : n ≡ count m s r

-- ---- every path of the grammar, n symbols after where the count began, ends `reads a` after it, where a is the value that it gives
pub data Costs {A : Type 0} (reads : A → ℕ) : ℕ → Reading A → Type 0 where
  ends : {n : ℕ} {a : A} → reads a ≡ n → Costs reads n (done a)
  asks : {n p : ℕ} {k : Bool → Reading A} → ((b : Bool) → Costs reads (suc n) (k b)) → Costs reads n (ask p k)

-- ---- how deep each of the twelve stands in coeff_tree (RFC 6386, section 13.2, 3423-3439)
abbrev pub token_depths : List ℕ
token_depths = 1 ∷ 2 ∷ 3 ∷ 5 ∷ 6 ∷ 6 ∷ 6 ∷ 6 ∷ 7 ∷ 7 ∷ 7 ∷ 7 ∷ []
