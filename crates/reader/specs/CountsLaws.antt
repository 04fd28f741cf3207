-- The laws of counts: what a proof of counting code cites, and its callers. A walk that comes to a leaf has read as many symbols as the
-- leaf is deep, whatever they were; a number has read as many as it has bits.
use Rattle.std.specs.Prelude.{◌+◌, ◌-◌, ◌≤◌, ◌<◌, ◌≡◌, ◌&&◌, ◌∷◌}
use Rattle.numbers.specs.Words.{ℕ, zero, suc, add-suc, add-zero, suc-add, zero-add, arith, refl, sym, ◌∙◌, ap, Bool, true, false, eqb, leb, never, both_left, both_right, both_true, eqb-true, le-leb, bit_of, List, [], length, get_or, take, drop, drop_of_length-le, ℤ, Err}
use Rattle.reader.specs.declared.trees.Branch.TheVariants as B
use Rattle.reader.specs.Reading.{Reader, Given, given, missing, ReadOf, symbol_of, valid_of, Reading, done, ask, ◌>>=◌, symbol, run, count}
use Rattle.reader.specs.ReadingLaws.{Valid, valid_test, never_both, run_done, run_missing, run_got, run_then, run_stops, count_done, count_missing, count_got, count_then, count_stops, from_read}
use Rattle.reader.specs.declared.boolean.Unread.TheVariants as U
use Rattle.reader.specs.Trees.{Branch, branch_at_of, step, follow, walk, tree_of, walk_of, walk_answer}
use Rattle.reader.specs.TreesLaws.{passes}
use Rattle.reader.specs.Token.{token_tree, token_start, token, eleven_at, token_of, token_answer}
use Rattle.reader.specs.TokenLaws.{eleven_part, tokened}
use Rattle.reader.specs.Extra.{extra_from, extra, extra_of, extra_answer}
use Rattle.reader.specs.ExtraLaws.{extra_asks, numbered}
use Rattle.reader.specs.Counts.{Took, Costs, ends, asks, tree_count, token_count, extra_count}

-- ---- one symbol
module _ {A : Type 0} (p : ℕ) (f : Bool → A) (s : List ℕ) (r : Reader) where
  pub one_got : {a : A} {r2 : Reader} → run (ask p (λ b. done (f b))) s r ≡ given a r2 → count (ask p (λ b. done (f b))) s r ≡ 1
  one_got {a} {r2} e = go (symbol_of s r p) refl
    where
      go : (x : Given Bool) → symbol_of s r p ≡ x → count (ask p (λ b. done (f b))) s r ≡ 1
      go missing g = absurd (never_both e (run_missing p (λ b. done (f b)) s r g))
      go (given b q) g = count_got p (λ b. done (f b)) s r b q g ∙ ap suc (count_done (f b) s q)

  pub one_missing : run (ask p (λ b. done (f b))) s r ≡ missing → count (ask p (λ b. done (f b))) s r ≡ 0
  one_missing e = go (symbol_of s r p) refl
    where
      go : (x : Given Bool) → symbol_of s r p ≡ x → count (ask p (λ b. done (f b))) s r ≡ 0
      go missing g = count_missing p (λ b. done (f b)) s r g
      go (given b q) g = absurd (never_both (run_got p (λ b. done (f b)) s r b q g ∙ run_done (f b) s q) e)

module _ (p : ℕ) (s : List ℕ) (r : Reader) where
  pub symbol_got : {b : Bool} {r2 : Reader} → run (symbol p) s r ≡ given b r2 → count (symbol p) s r ≡ 1
  symbol_got e = one_got p (λ b. b) s r e

  pub symbol_missing : run (symbol p) s r ≡ missing → count (symbol p) s r ≡ 0
  symbol_missing e = one_missing p (λ b. b) s r e

-- ---- runs with their counts, one part after another
pub took_as : {A : Type 0} {m : Reading A} {s : List ℕ} {r : Reader} {x y : Given A} {n k : ℕ} → x ≡ y → n ≡ k → Took m s r x n → Took m s r y k
took_as e f t = record { gave = t.gave ∙ e; took = sym f ∙ t.took }

-- what the code answers of it
pub took_is : {A B : Type 0} (f : Given A → B) {m : Reading A} {s : List ℕ} {r : Reader} {x : Given A} {n : ℕ} → Took m s r x n → (f x ≡ f (run m s r)) × (n ≡ count m s r)
took_is f t = (ap f (sym t.gave), t.took)

pub took_done : {A : Type 0} (a : A) (s : List ℕ) (r : Reader) → Took (done a) s r (given a r) 0
took_done a s r = record { gave = run_done a s r; took = sym (count_done a s r) }

pub took_got : {p : ℕ} {s : List ℕ} {r : Reader} {b : Bool} {q : Reader} → run (symbol p) s r ≡ given b q → Took (symbol p) s r (given b q) 1
took_got {p} {s} {r} e = record { gave = e; took = sym (symbol_got p s r e) }

pub took_missing : {p : ℕ} {s : List ℕ} {r : Reader} → run (symbol p) s r ≡ missing → Took (symbol p) s r missing 0
took_missing {p} {s} {r} e = record { gave = e; took = sym (symbol_missing p s r e) }

module _ {A B : Type 0} (f : A → Reading B) (m : Reading A) {s : List ℕ} {r : Reader} {n : ℕ} where
  pub took_stops : Took m s r missing n → Took (m >>= f) s r missing n
  took_stops t = record { gave = run_stops f s m r t.gave; took = t.took ∙ sym (count_stops f s m r t.gave) }

  module _ {a : A} {q : Reader} (t : Took m s r (given a q) n) {y : Given B} where
    pub took_then : {k : ℕ} → Took (f a) s q y k → Took (m >>= f) s r y (n + k)
    took_then u = record { gave = run_then f s m r t.gave ∙ u.gave; took = omega (arith, t.took, u.took, count_then f s m r t.gave) }

    -- after which nothing more is read
    pub took_ends : Took (f a) s q y 0 → Took (m >>= f) s r y n
    took_ends u = took_as refl (add-zero n) (took_then u)

-- ---- one step of a walk
module _ (s ps : List ℕ) (t : List ℤ) (n i : ℕ) (r : Reader) where
  pub count_walk_stops : run (step ps t i) s r ≡ missing → count (walk (suc n) ps t i) s r ≡ 0
  unfolding walk step
  count_walk_stops e = count_stops (follow (walk n ps t)) s (step ps t i) r e ∙ one_missing (get_or ps i 0) (branch_at_of t i) s r e

  pub count_walk_then : {x : Branch} {q : Reader} → run (step ps t i) s r ≡ given x q → count (walk (suc n) ps t i) s r ≡ suc (count (follow (walk n ps t) x) s q)
  unfolding walk step
  count_walk_then {x} {q} e = count_then (follow (walk n ps t)) s (step ps t i) r e ∙ ap (λ (k : ℕ). k + count (follow (walk n ps t) x) s q) (one_got (get_or ps i 0) (branch_at_of t i) s r e) ∙ omega arith

-- ---- grammars whose value says how many symbols were read
costs_from : {A : Type 0} {reads : A → ℕ} {n : ℕ} {m : Reading A} → Costs reads n m → (s : List ℕ) (r : Reader) {a : A} {r2 : Reader} → run m s r ≡ given a r2 → n + count m s r ≡ reads a
costs_from {reads} {n} (ends {a = x} h) s r {a} e =
    let g : reads x ≡ reads a = ap reads (given_same (sym (run_done x s r) ∙ e)) in
    omega (arith, count_done x s r, h, g)
  where
    given_same : {A : Type 0} {a b : A} {r q : Reader} → given a r ≡ given b q → a ≡ b
    given_same e = cc
costs_from {reads} {n} (asks {p} {k} f) s r {a} {r2} e = go (λ b q. costs_from (f b) s q) (symbol_of s r p) refl
  where
    go : ((b : Bool) (q : Reader) → run (k b) s q ≡ given a r2 → suc n + count (k b) s q ≡ reads a) → (x : Given Bool) → symbol_of s r p ≡ x → n + count (ask p k) s r ≡ reads a
    go ih missing g = absurd (never_both e (run_missing p k s r g))
    go ih (given b q) g = let h = ih b q (sym (run_got p k s r b q g) ∙ e) in omega (arith, count_got p k s r b q g, h)

-- THE LAW of them, for every reader
pub costs_reads : {A : Type 0} {reads : A → ℕ} {m : Reading A} → Costs reads 0 m → (s : List ℕ) (r : Reader) {a : A} {r2 : Reader} → run m s r ≡ given a r2 → count m s r ≡ reads a
costs_reads {m} h s r e = sym (zero-add (count m s r)) ∙ costs_from h s r e

pub costs_bind : {A B : Type 0} {reads : A → ℕ} {after : B → ℕ} {n : ℕ} {m : Reading A} {f : A → Reading B} → Costs reads n m → ((a : A) → Costs after (reads a) (f a)) → Costs after n (m >>= f)
costs_bind {after} {f} (ends {a} h) g = rw h at (g a)
costs_bind (asks h) g = asks (λ b. costs_bind (h b) g)

costs_more : {A : Type 0} {reads : A → ℕ} {n : ℕ} {m : Reading A} (k : ℕ) → Costs reads n m → Costs (λ a. k + reads a) (k + n) m
costs_more k (ends h) = ends (ap (λ (i : ℕ). k + i) h)
costs_more {n} k (asks h) = asks (λ b. rw (add-suc k n) at (costs_more k (h b)))

-- the same after k symbols
pub costs_after : {A : Type 0} {reads : A → ℕ} {m : Reading A} (k : ℕ) → Costs reads 0 m → Costs (λ a. k + reads a) k m
costs_after {reads} {m} k h = rw (add-zero k) at (costs_more k h)

pub costs_symbol : (n p : ℕ) → Costs (λ (b : Bool). suc n) n (symbol p)
costs_symbol n p = asks (λ b. ends refl)

-- ---- a tree whose leaves' depths are known: a test that computes, so that `refl` answers it of a constant tree, and the law
-- every path from node i, n symbols below the root, ends within d symbols, at a leaf v that is `reads v` below the root
abbrev pub depths_of : ℕ → ℕ → (ℕ → ℕ) → List ℤ → ℕ → Bool
depths_of zero n reads t i = false
depths_of (suc d) n reads t i =
    passes (λ v. eqb (reads v) (suc n)) (depths_of d (suc n) reads t) (branch_at_of t i true)
    && passes (λ v. eqb (reads v) (suc n)) (depths_of d (suc n) reads t) (branch_at_of t i false)

pub costs_walk : (d m n : ℕ) (reads : ℕ → ℕ) (ps : List ℕ) (t : List ℤ) (i : ℕ) → d ≤ m → depths_of d n reads t i ≡ true → Costs reads n (walk m ps t i)
unfolding walk step
costs_walk zero m n reads ps t i l e = absurd (never e refl)
costs_walk (suc d) zero n reads ps t i l e = absurd (omega arith)
costs_walk (suc d) (suc m) n reads ps t i l e =
    asks (λ b. go (λ j. costs_walk d m (suc n) reads ps t j (omega arith)) (branch_at_of t i b) (pass b))
  where
    pass : (b : Bool) → passes (λ v. eqb (reads v) (suc n)) (depths_of d (suc n) reads t) (branch_at_of t i b) ≡ true
    pass true = both_left _ _ e
    pass false = both_right (passes (λ v. eqb (reads v) (suc n)) (depths_of d (suc n) reads t) (branch_at_of t i true)) _ e

    go : ((j : ℕ) → depths_of d (suc n) reads t j ≡ true → Costs reads (suc n) (walk m ps t j)) → (x : Branch) → passes (λ v. eqb (reads v) (suc n)) (depths_of d (suc n) reads t) x ≡ true → Costs reads (suc n) (follow (walk m ps t) x)
    go ih (B.Leaf v) f = ends (eqb-true (reads v) (suc n) f)
    go ih (B.Node j) f = ih j f

-- ---- a number
extra_from_lem : (ps : List ℕ) (v n : ℕ) → Costs (λ x. n + length ps) n (extra_from v ps)
unfolding extra_from
extra_from_lem [] v n = ends (add-zero n)
extra_from_lem (p ∷ ps) v n = asks (λ b. rw (suc-add n (length ps), ← add-suc n (length ps)) at (extra_from_lem ps (v + v + bit_of b) (suc n)))

pub extra_costs : (ps : List ℕ) → Costs (λ x. length ps) 0 (extra ps)
extra_costs ps = rw (zero-add (length ps)) at (extra_from_lem ps 0 0)

-- one bit at a time, at index i, whatever the bits before it make
module _ (s ps : List ℕ) (v i : ℕ) (r : Reader) where
  pub bits_end : length ps ≤ i → count (extra_from v (drop i ps)) s r ≡ 0
  unfolding extra_from
  bits_end h = rw (drop_of_length-le ps h, extra_from) (count_done v s r)

  module _ (h : i < length ps) where
    pub bits_missing : run (symbol (get_or ps i 0)) s r ≡ missing → count (extra_from v (drop i ps)) s r ≡ 0
    bits_missing e =
        ap (λ m. count m s r) (extra_asks ps v i h)
        ∙ count_stops (λ b. extra_from (v + v + bit_of b) (drop (i + 1) ps)) s (symbol (get_or ps i 0)) r e
        ∙ symbol_missing (get_or ps i 0) s r e

    pub bits_got : {b : Bool} {q : Reader} → run (symbol (get_or ps i 0)) s r ≡ given b q → count (extra_from v (drop i ps)) s r ≡ suc (count (extra_from (v + v + bit_of b) (drop (i + 1) ps)) s q)
    bits_got {b} {q} e =
        ap (λ m. count m s r) (extra_asks ps v i h)
        ∙ count_then (λ b. extra_from (v + v + bit_of b) (drop (i + 1) ps)) s (symbol (get_or ps i 0)) r e
        ∙ ap (λ (k : ℕ). k + count (extra_from (v + v + bit_of b) (drop (i + 1) ps)) s q) (symbol_got (get_or ps i 0) s r e)
        ∙ omega arith

-- ---- the calls' tests, as the code makes them: where they fail all is refused, and behind them nothing is
module _ (s ps : List ℕ) (t : List ℤ) (i : ℕ) (r : Reader) {a b : Bool} (v : a ≡ valid_of s r) (e : b ≡ tree_of ps t i) where
  pub walk_refused : a && b ≡ false → (Err U.Refused ≡ walk_answer s ps t i r) × (0 ≡ tree_count s ps t i r)
  unfolding walk_answer tree_count
  walk_refused f = let g : valid_of s r && tree_of ps t i ≡ false = rw (v, e) at f in (rw (g, walk_answer), rw (g, tree_count))

  pub walk_made : a && b ≡ true → {x : ReadOf ℕ} {n : ℕ} → (x ≡ walk_of 32 s ps t i r) × (n ≡ count (walk 32 ps t i) s r) → (x ≡ walk_answer s ps t i r) × (n ≡ tree_count s ps t i r)
  unfolding walk_answer tree_count
  walk_made f p = let g : valid_of s r && tree_of ps t i ≡ true = rw (v, e) at f in (rw (g, walk_answer) p.0, rw (g, tree_count) p.1)

module _ (s table : List ℕ) (at : ℕ) (z : Bool) (r : Reader) {a b : Bool} (v : a ≡ valid_of s r) (e : b ≡ leb (at + 11) (length table)) where
  pub token_refused : a && b ≡ false → (Err U.Refused ≡ token_answer s table at z r) × (0 ≡ token_count s table at z r)
  unfolding token_answer token_count
  token_refused f = let g : valid_of s r && leb (at + 11) (length table) ≡ false = rw (v, e) at f in (rw (g, token_answer), rw (g, token_count))

  pub token_made : a && b ≡ true → {x : ReadOf ℕ} {n : ℕ} → x ≡ token_of s (eleven_at table at) z r → n ≡ count (token (eleven_at table at) z) s r → (x ≡ token_answer s table at z r) × (n ≡ token_count s table at z r)
  unfolding token_answer token_count
  token_made f p q = let g : valid_of s r && leb (at + 11) (length table) ≡ true = rw (v, e) at f in (rw (g, token_answer) p, rw (g, token_count) q)

-- its walk, with the eleven as a part of the table, from `at` up to m
pub token_walked : (s table : List ℕ) (at : ℕ) (z : Bool) (r : Reader) {m i : ℕ} {x : ReadOf ℕ} {n : ℕ} → m ≡ at + 11 → i ≡ token_start z → (x ≡ walk_of 32 s (take (m - at) (drop at table)) token_tree i r) × (n ≡ count (walk 32 (take (m - at) (drop at table)) token_tree i) s r) → (x ≡ token_of s (eleven_at table at) z r) × (n ≡ count (token (eleven_at table at) z) s r)
unfolding walk_of token_of
token_walked s table at z r {m} h j p = (rw (eleven_part table at m h, j) at p.0, rw (eleven_part table at m h, j) at p.1)

module _ (s ps : List ℕ) (r : Reader) {a : Bool} (v : a ≡ valid_of s r) where
  pub extra_refused : a && leb (length ps) 16 ≡ false → (Err U.Refused ≡ extra_answer s ps r) × (0 ≡ extra_count s ps r)
  unfolding extra_answer extra_count
  extra_refused f = let g : valid_of s r && leb (length ps) 16 ≡ false = rw v at f in (rw (g, extra_answer), rw (g, extra_count))

  pub extra_made : a && leb (length ps) 16 ≡ true → {x : ReadOf ℕ} {n : ℕ} → (x ≡ extra_of s ps r) × (n ≡ count (extra ps) s r) → (x ≡ extra_answer s ps r) × (n ≡ extra_count s ps r)
  unfolding extra_answer extra_count
  extra_made f p = let g : valid_of s r && leb (length ps) 16 ≡ true = rw v at f in (rw (g, extra_answer) p.0, rw (g, extra_count) p.1)

-- ---- THE LAWS for callers: with good arguments answer and count are the grammar's
pub tree_count_good : (s ps : List ℕ) (t : List ℤ) (i : ℕ) (r : Reader) → Valid s r → tree_of ps t i ≡ true → tree_count s ps t i r ≡ count (walk 32 ps t i) s r
unfolding tree_count
tree_count_good s ps t i r v e = rw (both_true (valid_test s r v) e, tree_count)

pub token_took : (s table : List ℕ) (at : ℕ) (z : Bool) (r : Reader) → Valid s r → at + 11 ≤ length table → {x : ReadOf ℕ} {n : ℕ} → (x ≡ token_answer s table at z r) × (n ≡ token_count s table at z r) → Took (token (eleven_at table at) z) s r (from_read x) n
unfolding token_count
token_took s table at z r v l p =
    let e : token_count s table at z r ≡ count (token (eleven_at table at) z) s r = rw (both_true (valid_test s r v) (le-leb _ _ l), token_count) in
    record { gave = tokened s table at z r v l p.0; took = p.1 ∙ e }

pub extra_took : (s ps : List ℕ) (r : Reader) → Valid s r → length ps ≤ 16 → {x : ReadOf ℕ} {n : ℕ} → (x ≡ extra_answer s ps r) × (n ≡ extra_count s ps r) → Took (extra ps) s r (from_read x) n
unfolding extra_count
extra_took s ps r v h p =
    let e : extra_count s ps r ≡ count (extra ps) s r = rw (both_true (valid_test s r v) (le-leb _ _ h), extra_count) in
    record { gave = numbered s ps r v h p.0; took = p.1 ∙ e }
