-- The trees of a macroblock's modes as tables: one test that computes says of each that it leads where its tree does.
use Rattle.std.specs.Prelude.{◌+◌, ◌<◌, ◌≡◌, ◌&&◌, ◌∷◌}
use Rattle.numbers.specs.Words.{ℕ, arith, refl, sym, subst, Bool, true, false, eqb, ltb, both_left, both_right, eqb-true, ltb-true, List, [], length, get_or, all_of, all_below, all_of_any, all_below_lem, ℤ}
use Rattle.modes.specs.Modes.{seg_tree, y_tree, uv_tree, b_tree}
use Rattle.reader.specs.declared.trees.Branch.{Branch}
use Rattle.reader.specs.declared.trees.Branch.TheVariants as B
use Rattle.reader.specs.Trees.{at_of, branch_at_of}
use Rattle.recode_frame.specs.ModeCopies.{LedTo, Leading, Led, Leaves}

-- from a node of n an entry leads as the tree's branch does
abbrev led_as : ℕ → ℕ → Branch → Bool
led_as n x (B.Leaf v) = eqb x (n + v)
led_as n x (B.Node j) = eqb x j && ltb j n

led_as_lem : (n i x : ℕ) (y : Branch) → led_as n x y ≡ true → LedTo n i x y
led_as_lem n i x (B.Leaf v) e = eqb-true x (n + v) e
led_as_lem n i x (B.Node j) e = (eqb-true x j (both_left (eqb x j) (ltb j n) e), ltb-true j n (both_right (eqb x j) (ltb j n) e))

-- and to a later node or a leaf
abbrev good_at : ℕ → List ℕ → List ℤ → ℕ → Bool → Bool
good_at n leads t i b = led_as n (get_or leads (at_of i b) 0) (branch_at_of t i b) && ltb i (get_or leads (at_of i b) 0)

abbrev good_node : ℕ → List ℕ → List ℤ → ℕ → Bool
good_node n leads t i = good_at n leads t i true && good_at n leads t i false

-- THE TEST: two entries a node, all below n and the number of leaves, each node good
abbrev good_table : (n m : ℕ) → List ℕ → List ℤ → Bool
good_table n m leads t = eqb (length leads) (n + n) && (all_of (λ x. ltb x (n + m)) leads && all_below n (good_node n leads t))

pub record TreeTable (n m : ℕ) (leads : List ℕ) (t : List ℤ) : Type 0 where
  pub leading : Leading n leads
  pub led : Led n leads t
  pub leaves : Leaves n m leads

table_good : (n m : ℕ) (leads : List ℕ) (t : List ℤ) → ltb 0 (n + m) ≡ true → n + m < 256 → good_table n m leads t ≡ true → TreeTable n m leads t
table_good n m leads t z s e =
    record {
      leading = record { size = eqb-true (length leads) (n + n) (both_left _ _ e); later = λ i b h. ltb-true i (get_or leads (at_of i b) 0) (both_right (same i b) (later i b) (at i b h)); byte = λ k. omega (arith, below k, s) };
      led = λ i b h. led_as_lem n i (get_or leads (at_of i b) 0) (branch_at_of t i b) (both_left (same i b) (later i b) (at i b h));
      leaves = below;
    }
  where
    same : ℕ → Bool → Bool
    same i b = led_as n (get_or leads (at_of i b) 0) (branch_at_of t i b)

    later : ℕ → Bool → Bool
    later i b = ltb i (get_or leads (at_of i b) 0)

    rest : (all_of (λ x. ltb x (n + m)) leads && all_below n (good_node n leads t)) ≡ true
    rest = both_right (eqb (length leads) (n + n)) _ e

    below : (k : ℕ) → get_or leads k 0 < n + m
    below k = ltb-true (get_or leads k 0) (n + m) (all_of_any (λ x. ltb x (n + m)) leads 0 z (both_left _ _ rest) k)

    at : (i : ℕ) (b : Bool) → i < n → good_at n leads t i b ≡ true
    at i true h = both_left _ _ (all_below_lem (good_node n leads t) n (both_right (all_of (λ x. ltb x (n + m)) leads) _ rest) i h)
    at i false h = both_right (good_at n leads t i true) _ (all_below_lem (good_node n leads t) n (both_right (all_of (λ x. ltb x (n + m)) leads) _ rest) i h)

-- a table for as many probabilities as the tree has nodes
abbrev lasting : (n m : ℕ) (leads : List ℕ) (t : List ℤ) → TreeTable n m leads t → {k : ℕ} → k ≡ n → TreeTable k m leads t
lasting n m leads t x e = subst (λ (k : ℕ). TreeTable k m leads t) (sym e) x

abbrev pub segment_leads : List ℕ
segment_leads = 1 ∷ 2 ∷ 3 ∷ 4 ∷ 5 ∷ 6 ∷ []

abbrev pub luma_leads : List ℕ
luma_leads = 1 ∷ 2 ∷ 3 ∷ 5 ∷ 6 ∷ 4 ∷ []

abbrev pub chroma_leads : List ℕ
chroma_leads = 3 ∷ 1 ∷ 5 ∷ 2 ∷ 6 ∷ 4 ∷ []

abbrev pub small_leads : List ℕ
small_leads = 9 ∷ 1 ∷ 10 ∷ 2 ∷ 11 ∷ 3 ∷ 4 ∷ 6 ∷ 12 ∷ 5 ∷ 13 ∷ 14 ∷ 15 ∷ 7 ∷ 16 ∷ 8 ∷ 17 ∷ 18 ∷ []

pub segment_table : {n : ℕ} → n ≡ 3 → TreeTable n 4 segment_leads seg_tree
segment_table = lasting 3 4 segment_leads seg_tree (table_good 3 4 segment_leads seg_tree refl (omega arith) refl)

pub luma_table : {n : ℕ} → n ≡ 3 → TreeTable n 4 luma_leads y_tree
luma_table = lasting 3 4 luma_leads y_tree (table_good 3 4 luma_leads y_tree refl (omega arith) refl)

pub chroma_table : {n : ℕ} → n ≡ 3 → TreeTable n 4 chroma_leads uv_tree
chroma_table = lasting 3 4 chroma_leads uv_tree (table_good 3 4 chroma_leads uv_tree refl (omega arith) refl)

pub small_table : {n : ℕ} → n ≡ 9 → TreeTable n 10 small_leads b_tree
small_table = lasting 9 10 small_leads b_tree (table_good 9 10 small_leads b_tree refl (omega arith) refl)
