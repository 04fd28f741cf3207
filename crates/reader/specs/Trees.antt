-- Trees of symbols (RFC 6386, section 8.1, 1482-1494), as grammars.
use Rattle.std.specs.Prelude.{◌+◌, ◌/◌, ◌≤◌, ◌<◌, ◌≡◌, ◌&&◌}
use Rattle.numbers.specs.Words.{ℕ, zero, suc, Bool, true, false, eqb, ltb, leb, List, length, get_or, ℤ, pos, negsuc, Err}
use Rattle.reader.specs.declared.boolean.Unread.TheVariants as U
pub use Rattle.reader.specs.declared.trees.Branch.{Branch}
use Rattle.reader.specs.declared.trees.Branch.TheVariants as B
use Rattle.reader.specs.Reading.{Reader, ReadOf, to_read, valid_of, Reading, done, symbol, run, ◌>>=◌}

-- an entry: positive names a node, zero or less a leaf
abbrev pub node : ℕ → ℤ
node n = pos n

-- a leaf's value as an entry
abbrev pub leaf : ℕ → ℤ
leaf zero = pos 0
leaf (suc n) = negsuc n

-- which of the two it is
abbrev pub branch_of : ℤ → Branch
branch_of (pos zero) = B.Leaf 0
branch_of (pos (suc n)) = B.Node (suc n)
branch_of (negsuc n) = B.Leaf (suc n)

-- node i is entries 2i and 2i + 1
abbrev pub at_of : ℕ → Bool → ℕ
at_of i true = i + i + 1
at_of i false = i + i

-- where the bit b leads from node i
abbrev pub branch_at_of : List ℤ → ℕ → Bool → Branch
branch_at_of t i b = branch_of (get_or t (at_of i b) (pos 0))

-- how many nodes: two entries each
abbrev pub nodes_of : List ℤ → ℕ
nodes_of t = length t / 2

-- the RFC's treed_read (1529-1541): a symbol at the node's probability, then on from where it leads
unfoldable pub step : List ℕ → List ℤ → ℕ → Reading Branch
step ps t i = do
  b ← symbol (get_or ps i 0)
  done (branch_at_of t i b)

-- a leaf ends the walk; from a node it goes on
abbrev pub follow : (ℕ → Reading ℕ) → Branch → Reading ℕ
follow on (B.Leaf v) = done v
follow on (B.Node j) = on j

-- at most n steps from node i; in a tree no walk uses up 32 (`walk_limit`)
unfoldable pub walk : ℕ → List ℕ → List ℤ → ℕ → Reading ℕ
walk zero ps t i = done 0
walk (suc n) ps t i = do
  x ← step ps t i
  follow (walk n ps t) x

-- ---- what may be walked
-- an entry at k, of node k / 2, in a tree of n nodes: a leaf, or a later node
abbrev pub leads_of : ℕ → ℕ → Branch → Bool
leads_of n k (B.Leaf v) = true
leads_of n k (B.Node j) = ltb (k / 2) j && ltb j n

-- the first k entries do
unfoldable pub tree_entries : ℕ → List ℤ → ℕ → Bool
tree_entries n t zero = true
tree_entries n t (suc k) = tree_entries n t k && leads_of n k (branch_of (get_or t k (pos 0)))

-- a tree: two entries a node, fewer than 32 nodes, a probability for each, the start among them, every positive entry a later one
unfoldable pub tree_of : List ℕ → List ℤ → ℕ → Bool
tree_of ps t start =
    ltb (nodes_of t) 32
    && (eqb (length t) (nodes_of t + nodes_of t)
    && (leb (nodes_of t) (length ps) && (ltb start (nodes_of t) && tree_entries (nodes_of t) t (nodes_of t + nodes_of t))))

-- ---- the calls' answers
-- one step from node i
unfoldable pub tree_step_of : List ℕ → List ℕ → List ℤ → ℕ → Reader → ReadOf Branch
tree_step_of s ps t i r = to_read (run (step ps t i) s r)

-- a walk from node i, read from a partition
unfoldable pub walk_of : ℕ → List ℕ → List ℕ → List ℤ → ℕ → Reader → ReadOf ℕ
walk_of n s ps t i r = to_read (run (walk n ps t i) s r)

-- `walk_tree`: refused where the reader or the tree is out of range
unfoldable pub walk_answer : List ℕ → List ℕ → List ℤ → ℕ → Reader → ReadOf ℕ
walk_answer s ps t start r =
    elim (valid_of s r && tree_of ps t start) [ true ↦ walk_of 32 s ps t start r | false ↦ Err U.Refused ]

-- ---- a tree as facts, which the inner functions require
abbrev pub Leads : ℕ → ℕ → Branch → Type 0
Leads n i (B.Leaf v) = Unit {0}
Leads n i (B.Node j) = (i < j) × (j < n)

pub record Tree (ps : List ℕ) (t : List ℤ) : Type 0 where
  pub few : nodes_of t < 32
  pub size : length t ≡ nodes_of t + nodes_of t
  pub probs : nodes_of t ≤ length ps
  pub leads : (i : ℕ) (b : Bool) → i < nodes_of t → Leads (nodes_of t) i (branch_at_of t i b)

-- a branch whose leaf passes the test q, or whose node passes the other
abbrev pub passes : (ℕ → Bool) → (ℕ → Bool) → Branch → Bool
passes q on (B.Leaf v) = q v
passes q on (B.Node j) = on j

-- every path from node i ends within d symbols, at a leaf that passes the test q
abbrev pub leaves_reached : ℕ → (ℕ → Bool) → List ℤ → ℕ → Bool
leaves_reached zero q t i = false
leaves_reached (suc d) q t i = passes q (leaves_reached d q t) (branch_at_of t i true) && passes q (leaves_reached d q t) (branch_at_of t i false)
