-- The segment tree (RFC 6386, section 10, 2305-2310), and what its last nodes give.
use Rattle.std.specs.Prelude.{◌≡◌, ◌∷◌}
use Rattle.numbers.specs.Words.{ℕ, suc, refl, sym, ◌∙◌, ap, Bool, true, false, lit≤, List, [], get_or, ℤ, Ok, Err}
use Rattle.reader.specs.declared.trees.Branch.TheVariants as B
use Rattle.reader.specs.declared.boolean.Reader.{Reader}
use Rattle.reader.specs.declared.boolean.Unread.{Unread}
use Rattle.reader.specs.declared.boolean.Unread.TheVariants as U
use Rattle.reader.specs.Reading.{Given, given, missing, ReadOf, to_read, symbol, run}
use Rattle.reader.specs.Trees.{node, leaf, branch_at_of, walk_of}
use Rattle.reader.specs.ReadingLaws.{Bytes, Valid, run_valid, from_read, from_read_lem, unread_missing}
use Rattle.reader.specs.TreesLaws.{chain_missing, chain_leaf, chain_node, walk_is, walk_on, walk_gives, reach_within}

abbrev pub segment_tree : List ℤ
segment_tree = node 1 ∷ node 2 ∷ leaf 0 ∷ leaf 1 ∷ leaf 2 ∷ leaf 3 ∷ []

-- one of two leaves, by the bit
abbrev pub last_of : ℕ → ℕ → Given Bool → ReadOf ℕ
last_of low high (given false r) = Ok (low, r)
last_of low high (given true r) = Ok (high, r)
last_of low high missing = Err U.Missing

-- where no bit was read
pub last_unread : {u : Unread} (low high : ℕ) (g : Given Bool) → Err u ≡ to_read g → Err u ≡ last_of low high g
last_unread low high (given b r) e = cc
last_unread low high missing e = rw (unread_missing {A = Bool} missing e)

-- a node with two leaves
pub last_node : (s ps : List ℕ) (t : List ℤ) (i n : ℕ) (r : Reader) {low high : ℕ} → branch_at_of t i false ≡ B.Leaf low → branch_at_of t i true ≡ B.Leaf high
    → last_of low high (run (symbol (get_or ps i 0)) s r) ≡ walk_of (suc n) s ps t i r
last_node s ps t i n r {low} {high} e f = go (run (symbol (get_or ps i 0)) s r) refl
  where
    go : (x : Given Bool) → run (symbol (get_or ps i 0)) s r ≡ x → last_of low high (run (symbol (get_or ps i 0)) s r) ≡ walk_of (suc n) s ps t i r
    go (given false q) g = ap (last_of low high) g ∙ walk_is s ps t (suc n) i r (chain_leaf s ps t i r n false e g)
    go (given true q) g = ap (last_of low high) g ∙ walk_is s ps t (suc n) i r (chain_leaf s ps t i r n true f g)
    go missing g = ap (last_of low high) g ∙ walk_is s ps t (suc n) i r (chain_missing s ps t i r n g)

-- a leaf's reader is in range
pub leaf_valid : (s ps : List ℕ) (r : Reader) {v : ℕ} {q : Reader} → Bytes s → Bytes ps → Valid s r → Ok (v, q) ≡ walk_of 32 s ps segment_tree 0 r → Valid s q
leaf_valid s ps r y z h e = (run_valid (reach_within 2 32 (λ v. true) ps segment_tree 0 (lit≤ tt) z refl) y h (walk_gives s ps segment_tree 32 0 r e)).valid

-- the segment tree, node by node
module _ (s ps : List ℕ) (r : Reader) where
  pub segment_missing : {u : Unread} → Err u ≡ to_read (run (symbol (get_or ps 0 0)) s r) → Err u ≡ walk_of 32 s ps segment_tree 0 r
  segment_missing e =
      let m : run (symbol (get_or ps 0 0)) s r ≡ missing = from_read_lem _ ∙ ap from_read (sym e) in
      rw (unread_missing _ e) (walk_is s ps segment_tree 32 0 r (chain_missing s ps segment_tree 0 r 31 m))

  pub segment_high : {q : Reader} → run (symbol (get_or ps 0 0)) s r ≡ given true q → last_of 2 3 (run (symbol (get_or ps 2 0)) s q) ≡ walk_of 32 s ps segment_tree 0 r
  segment_high {q} e = last_node s ps segment_tree 2 30 q refl refl ∙ walk_on s ps segment_tree 31 0 2 r q (chain_node s ps segment_tree 0 r 31 true refl e)

  pub segment_low : {q : Reader} → run (symbol (get_or ps 0 0)) s r ≡ given false q → last_of 0 1 (run (symbol (get_or ps 1 0)) s q) ≡ walk_of 32 s ps segment_tree 0 r
  segment_low {q} e = last_node s ps segment_tree 1 30 q refl refl ∙ walk_on s ps segment_tree 31 0 1 r q (chain_node s ps segment_tree 0 r 31 false refl e)
