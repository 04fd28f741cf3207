-- The laws of tree walks: what code and callers cite.
use Rattle.std.specs.Prelude.{◌+◌, ◌/◌, ◌≤◌, ◌<◌, ◌≡◌, ◌&&◌}
use Rattle.numbers.specs.Words.{ℕ, zero, suc, add-one, add-suc, arith, refl, sym, ◌∙◌, ap, Bool, true, false, ⊎_elim, eqb, ltb, leb, lt_or, never, not_so, both_left, both_right, both_true, eq-eqb, eqb-true, le-leb, leb-true, lt-ltb, ltb-true, List, length, get_or, all_at, all_at_lem, ℤ, pos, Err}
use Rattle.reader.specs.declared.boolean.Unread.TheVariants as U
use Rattle.reader.specs.declared.trees.Branch.TheVariants as B
use Rattle.reader.specs.Reading.{Reader, Unread, Given, given, missing, ReadOf, to_read, done, ask, symbol, run, Within, ends, asks}
use Rattle.reader.specs.ReadingLaws.{Bytes, Valid, valid_test, run_done, run_then, run_stops, within_weaken, from_read, from_read_lem, unread_missing}
use Rattle.reader.specs.Trees.{Branch, branch_of, at_of, branch_at_of, nodes_of, step, follow, walk, leads_of, tree_entries, tree_of, tree_step_of, walk_of, walk_answer, Leads, Tree}
pub use Rattle.reader.specs.Trees.{passes, leaves_reached}

-- ---- a walk of a known tree, one node at a time: an `if` chain over `symbol` equals the walk by these three. In a constant
-- tree the equation of a branch is `refl`.
module _ (s ps : List ℕ) (t : List ℤ) (i : ℕ) (r : Reader) where
  pub step_missing : run (symbol (get_or ps i 0)) s r ≡ missing → run (step ps t i) s r ≡ missing
  unfolding step
  step_missing e = run_stops (λ b. done (branch_at_of t i b)) s (symbol (get_or ps i 0)) r e

  pub step_got : {b : Bool} {q : Reader} → run (symbol (get_or ps i 0)) s r ≡ given b q → run (step ps t i) s r ≡ given (branch_at_of t i b) q
  unfolding step
  step_got {b} {q} e = run_then (λ b. done (branch_at_of t i b)) s (symbol (get_or ps i 0)) r e ∙ run_done (branch_at_of t i b) s q

  -- a step, and the walk from where it led
  module _ (n : ℕ) where
    pub walk_stops : run (step ps t i) s r ≡ missing → run (walk (suc n) ps t i) s r ≡ missing
    unfolding walk
    walk_stops e = run_stops (follow (walk n ps t)) s (step ps t i) r e

    pub walk_then : {x : Branch} {q : Reader} → run (step ps t i) s r ≡ given x q → run (walk (suc n) ps t i) s r ≡ run (follow (walk n ps t) x) s q
    unfolding walk
    walk_then e = run_then (follow (walk n ps t)) s (step ps t i) r e

    pub chain_missing : run (symbol (get_or ps i 0)) s r ≡ missing → run (walk (suc n) ps t i) s r ≡ missing
    chain_missing e = walk_stops (step_missing e)

    module _ (b : Bool) {q : Reader} where
      pub chain_leaf : {v : ℕ} → branch_at_of t i b ≡ B.Leaf v → run (symbol (get_or ps i 0)) s r ≡ given b q → run (walk (suc n) ps t i) s r ≡ given v q
      chain_leaf {v} g e = walk_then (step_got e) ∙ ap (λ (x : Branch). run (follow (walk n ps t) x) s q) g ∙ run_done v s q

      pub chain_node : {j : ℕ} → branch_at_of t i b ≡ B.Node j → run (symbol (get_or ps i 0)) s r ≡ given b q → run (walk (suc n) ps t i) s r ≡ run (walk n ps t j) s q
      chain_node g e = walk_then (step_got e) ∙ ap (λ (x : Branch). run (follow (walk n ps t) x) s q) g

-- ---- one step of the code
module _ (s ps : List ℕ) (t : List ℤ) (i : ℕ) (r : Reader) where
  pub down_missing : {u : Unread} → run (symbol (get_or ps i 0)) s r ≡ missing → u ≡ U.Missing → Err u ≡ tree_step_of s ps t i r
  unfolding tree_step_of
  down_missing e f = rw f (sym (ap to_read (step_missing s ps t i r e)))

  pub down_got : {b : Bool} {q : Reader} → run (symbol (get_or ps i 0)) s r ≡ given b q → {k : ℕ} → k ≡ at_of i b → {x : Branch} → x ≡ branch_of (get_or t k (pos 0)) → to_read (given x q) ≡ tree_step_of s ps t i r
  unfolding tree_step_of
  down_got {b} {q} e {k} h {x} g = let f : x ≡ branch_at_of t i b = rw h at g in rw f (sym (ap to_read (step_got s ps t i r e)))

  -- what the code's step says of the grammar
  pub stepped : {x : ReadOf Branch} → x ≡ tree_step_of s ps t i r → run (step ps t i) s r ≡ from_read x
  unfolding tree_step_of
  stepped e = from_read_lem (run (step ps t i) s r) ∙ ap from_read (sym e)

  -- where it gave nothing, a byte was missing
  pub step_unread : {u : Unread} → Err u ≡ tree_step_of s ps t i r → u ≡ U.Missing
  unfolding tree_step_of
  step_unread e = unread_missing (run (step ps t i) s r) e

pub step_within : (ps : List ℕ) (t : List ℤ) (i : ℕ) → Tree ps t → Bytes ps → i < nodes_of t → Within (Leads (nodes_of t) i) 1 (step ps t i)
unfolding step
step_within ps t i h y l = asks (y i) (λ b. ends (h.leads i b l))

pub at_inside : (n i : ℕ) (b : Bool) → i < n → at_of i b < n + n
at_inside n i true h = omega arith
at_inside n i false h = omega arith

-- ---- a walk of the code
module _ (s ps : List ℕ) (t : List ℤ) where
  -- it is the grammar's run
  pub walk_is : (n i : ℕ) (r : Reader) {x : Given ℕ} → run (walk n ps t i) s r ≡ x → to_read x ≡ walk_of n s ps t i r
  unfolding walk_of
  walk_is n i r e = ap to_read (sym e)

  pub walk_on : (n i j : ℕ) (r q : Reader) → run (walk (suc n) ps t i) s r ≡ run (walk n ps t j) s q → walk_of n s ps t j q ≡ walk_of (suc n) s ps t i r
  unfolding walk_of
  walk_on n i j r q e = ap to_read (sym e)

  pub walk_gives : (n i : ℕ) (r : Reader) {x : ReadOf ℕ} → x ≡ walk_of n s ps t i r → run (walk n ps t i) s r ≡ from_read x
  unfolding walk_of
  walk_gives n i r e = from_read_lem (run (walk n ps t i) s r) ∙ ap from_read (sym e)

-- ---- the test of a tree
pub entries_none : (n : ℕ) (t : List ℤ) → tree_entries n t 0 ≡ true
unfolding tree_entries
entries_none n t = refl

pub entries_next : (n : ℕ) (t : List ℤ) (k : ℕ) → tree_entries n t k ≡ true → leads_of n k (branch_of (get_or t k (pos 0))) ≡ true → tree_entries n t (k + 1) ≡ true
unfolding tree_entries
entries_next n t k e f = rw add-one (both_true e f)

entries_at : (n : ℕ) (t : List ℤ) (m k : ℕ) → tree_entries n t m ≡ true → k < m → leads_of n k (branch_of (get_or t k (pos 0))) ≡ true
unfolding tree_entries
entries_at n t zero k e h = absurd (omega arith)
entries_at n t (suc m) k e h =
    ⊎_elim
    (λ l. entries_at n t m k (both_left _ _ e) l)
    (λ l. let g : k ≡ m = omega arith in rw g (both_right (tree_entries n t m) _ e))
    (lt_or k m)

leads_fact : (n k i : ℕ) (x : Branch) → k / 2 ≡ i → leads_of n k x ≡ true → Leads n i x
leads_fact n k i (B.Leaf v) h e = tt
leads_fact n k i (B.Node j) h e = (rw h at (ltb-true (k / 2) j (both_left _ _ e)), ltb-true j n (both_right (ltb (k / 2) j) _ e))

half : (i : ℕ) (b : Bool) → at_of i b / 2 ≡ i
half i true = omega arith
half i false = omega arith

module _ (ps : List ℕ) (t : List ℤ) (start : ℕ) where
  -- the parts of the test
  record Parts : Type 0 where
    few : nodes_of t < 32
    size : length t ≡ nodes_of t + nodes_of t
    probs : nodes_of t ≤ length ps
    inside : start < nodes_of t
    entries : tree_entries (nodes_of t) t (nodes_of t + nodes_of t) ≡ true

  parts : tree_of ps t start ≡ true → Parts
  unfolding tree_of
  parts e =
      let e1 = both_right (ltb (nodes_of t) 32) _ e in
      let e2 = both_right (eqb (length t) (nodes_of t + nodes_of t)) _ e1 in
      let e3 = both_right (leb (nodes_of t) (length ps)) _ e2 in
      record {
        few = ltb-true _ _ (both_left _ _ e);
        size = eqb-true _ _ (both_left _ _ e1);
        probs = leb-true _ _ (both_left _ _ e2);
        inside = ltb-true _ _ (both_left _ _ e3);
        entries = both_right (ltb start (nodes_of t)) _ e3;
      }

  pub tree_start : tree_of ps t start ≡ true → start < nodes_of t
  tree_start e = (parts e).inside

  pub tree_fact : tree_of ps t start ≡ true → Tree ps t
  tree_fact e =
      let p = parts e in
      record {
        few = p.few;
        size = p.size;
        probs = p.probs;
        leads = λ j b l. leads_fact (nodes_of t) (at_of j b) j (branch_at_of t j b) (half j b) (entries_at (nodes_of t) t (nodes_of t + nodes_of t) (at_of j b) p.entries (at_inside (nodes_of t) j b l));
      }

  pub tree_not : (tree_of ps t start ≡ true → ⊥) → false ≡ tree_of ps t start
  tree_not f = not_so (tree_of ps t start) f

  pub tree_entry : (k : ℕ) → k < nodes_of t + nodes_of t → leads_of (nodes_of t) k (branch_of (get_or t k (pos 0))) ≡ false → tree_of ps t start ≡ true → ⊥
  tree_entry k h f e = never (entries_at (nodes_of t) t (nodes_of t + nodes_of t) k (parts e).entries h) f

  pub tree_all : (k : ℕ) → nodes_of t < 32 → length t ≡ nodes_of t + nodes_of t → nodes_of t ≤ length ps → start < nodes_of t → k ≡ nodes_of t + nodes_of t → tree_entries (nodes_of t) t k ≡ true → true ≡ tree_of ps t start
  unfolding tree_of
  tree_all k a b c d e f =
      let g : tree_entries (nodes_of t) t (nodes_of t + nodes_of t) ≡ true = rw e at f in
      sym (both_true (lt-ltb _ _ a) (both_true (eq-eqb _ _ b) (both_true (le-leb _ _ c) (both_true (lt-ltb _ _ d) g))))

-- ---- the public call
module _ (s ps : List ℕ) (t : List ℤ) (i : ℕ) (r : Reader) where
  pub walk_good : Valid s r → tree_of ps t i ≡ true → walk_answer s ps t i r ≡ walk_of 32 s ps t i r
  unfolding walk_answer
  walk_good v e = rw (both_true (valid_test s r v) e, walk_answer)

  -- THE LAW for callers of `walk_tree`
  pub walked : Valid s r → tree_of ps t i ≡ true → {x : ReadOf ℕ} → x ≡ walk_answer s ps t i r → run (walk 32 ps t i) s r ≡ from_read x
  walked v e f = walk_gives s ps t 32 i r (f ∙ walk_good v e)

-- ---- constant trees: two tests that compute, so that `refl` answers them, and the laws that turn them into facts
-- what `tree_of` asks of the tree itself
abbrev pub fixed_of : List ℤ → ℕ → Bool
fixed_of t start =
    ltb (nodes_of t) 32
    && (eqb (length t) (nodes_of t + nodes_of t) && (ltb start (nodes_of t) && all_at (λ k e. leads_of (nodes_of t) k (branch_of e)) 0 t))

entries_all : (n : ℕ) (t : List ℤ) (m : ℕ) → ((k : ℕ) → k < m → leads_of n k (branch_of (get_or t k (pos 0))) ≡ true) → tree_entries n t m ≡ true
unfolding tree_entries
entries_all n t zero h = refl
entries_all n t (suc m) h = both_true (entries_all n t m (λ k l. h k (omega arith))) (h m (omega arith))

-- with a probability for each node it may be walked
pub tree_fixed : (ps : List ℕ) (t : List ℤ) (start : ℕ) → nodes_of t ≤ length ps → fixed_of t start ≡ true → tree_of ps t start ≡ true
tree_fixed ps t start h e =
    let e1 = both_right (ltb (nodes_of t) 32) _ e in
    let e2 = both_right (eqb (length t) (nodes_of t + nodes_of t)) _ e1 in
    let size : length t ≡ nodes_of t + nodes_of t = eqb-true _ _ (both_left _ _ e1) in
    let each = all_at_lem (λ k x. leads_of (nodes_of t) k (branch_of x)) t (pos 0) (both_right (ltb start (nodes_of t)) _ e2) in
    sym
    (tree_all ps t start (nodes_of t + nodes_of t) (ltb-true _ _ (both_left _ _ e)) size h (ltb-true _ _ (both_left _ _ e2)) refl
    (entries_all (nodes_of t) t (nodes_of t + nodes_of t) (λ k l. each k (omega arith))))

pub reach_within : (d n : ℕ) (q : ℕ → Bool) (ps : List ℕ) (t : List ℤ) (i : ℕ) → d ≤ n → Bytes ps → leaves_reached d q t i ≡ true → Within (λ v. q v ≡ true) d (walk n ps t i)
unfolding walk step
reach_within zero n q ps t i l y e = absurd (never e refl)
reach_within (suc d) zero q ps t i l y e = absurd (omega arith)
reach_within (suc d) (suc n) q ps t i l y e =
    asks (y i) (λ b. go (λ j. reach_within d n q ps t j (omega arith) y) (branch_at_of t i b) (pass b))
  where
    pass : (b : Bool) → passes q (leaves_reached d q t) (branch_at_of t i b) ≡ true
    pass true = both_left _ _ e
    pass false = both_right (passes q (leaves_reached d q t) (branch_at_of t i true)) _ e

    go : ((j : ℕ) → leaves_reached d q t j ≡ true → Within (λ v. q v ≡ true) d (walk n ps t j)) → (x : Branch) → passes q (leaves_reached d q t) x ≡ true → Within (λ v. q v ≡ true) d (follow (walk n ps t) x)
    go ih (B.Leaf v) f = ends f
    go ih (B.Node j) f = ih j f

-- where the test is a comparison
pub walk_below : (d n m : ℕ) (ps : List ℕ) (t : List ℤ) (i : ℕ) → d ≤ n → Bytes ps → leaves_reached d (λ v. ltb v m) t i ≡ true → Within (λ v. v < m) d (walk n ps t i)
walk_below d n m ps t i l y e = within_weaken (λ v. ltb-true v m) (reach_within d n (λ v. ltb v m) ps t i l y e)

-- ---- the limit is never reached: one step more changes nothing
walk_more : (ps : List ℕ) (t : List ℤ) → Tree ps t → (n i : ℕ) → i < nodes_of t → nodes_of t ≤ i + n → walk (suc n) ps t i ≡ walk n ps t i
unfolding walk step
walk_more ps t h zero i l k = absurd (omega arith)
walk_more ps t h (suc n) i l k = λ j. ask (get_or ps i 0) (λ b. go (λ v. walk_more ps t h n v) (branch_at_of t i b) (h.leads i b l) j)
  where
    go : ((v : ℕ) → v < nodes_of t → nodes_of t ≤ v + n → walk (suc n) ps t v ≡ walk n ps t v) → (x : Branch) → Leads (nodes_of t) i x → follow (walk (suc n) ps t) x ≡ follow (walk n ps t) x
    go ih (B.Leaf v) w = refl
    go ih (B.Node v) w = ih v w.1 (omega (arith, w.0))

-- any limit from 31 on gives the walk that 32 gives
pub walk_limit : (ps : List ℕ) (t : List ℤ) (start : ℕ) → tree_of ps t start ≡ true → (n : ℕ) → walk (31 + n) ps t start ≡ walk 31 ps t start
walk_limit ps t start e zero = refl
walk_limit ps t start e (suc n) =
    let h = tree_fact ps t start e in
    ap (λ (m : ℕ). walk m ps t start) (add-suc 31 n) ∙ walk_more ps t h (31 + n) start (tree_start ps t start e) (omega (arith, h.few)) ∙ walk_limit ps t start e n
