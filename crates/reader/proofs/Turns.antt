-- The turns of the loops, as laws on plain values: what is left to read gives what all of it gives, and its symbols with those read are as many.
use Rattle.numbers.specs.Words.{ℕ, zero, suc, ◌+◌, ◌^◌, ◌≤◌, ◌<◌, add-one, pow-succ', arith, ◌≡◌, refl, sym, ◌∙◌, ap, Bool, bit_of, bit_small, List, length, get_or, drop, ℤ, Ok, Err}
use Rattle.reader.specs.declared.trees.Branch.TheVariants as B
use Rattle.reader.specs.declared.boolean.Unread.TheVariants as U
use Rattle.reader.specs.Reading.{Reader, Unread, ReadOf, to_read, given, missing, symbol, run, count}
use Rattle.reader.specs.ReadingLaws.{Bytes, Valid, run_done, run_valid, within_symbol, count_done}
use Rattle.reader.specs.Trees.{nodes_of, walk, tree_step_of, walk_of, Tree}
use Rattle.reader.specs.TreesLaws.{stepped, step_unread, step_within, walk_is, walk_stops, walk_then}
use Rattle.reader.specs.Extra.{extra_from, extra, extra_of}
use Rattle.reader.specs.ExtraLaws.{extra_end, extra_missing, extra_got}
use Rattle.reader.specs.CountsLaws.{count_walk_stops, count_walk_then, bits_end, bits_missing, bits_got}

-- ---- `walk`: at node i, `reads` symbols below the start
pub record Walking (s ps : List ℕ) (t : List ℤ) (i₀ : ℕ) (r₀ : Reader) (reads i : ℕ) (r : Reader) : Type 0 where
  pub left : ℕ
  pub sum : reads + left ≡ 32
  pub same : run (walk 32 ps t i₀) s r₀ ≡ run (walk left ps t i) s r
  pub counted : count (walk 32 ps t i₀) s r₀ ≡ reads + count (walk left ps t i) s r
  pub valid : Valid s r
  pub inside : i < nodes_of t

pub walking_start : {s ps : List ℕ} {t : List ℤ} {i : ℕ} {r : Reader} → Valid s r → i < nodes_of t → Walking s ps t i r 0 i r
walking_start v l = record { left = 32; sum = refl; same = refl; counted = omega arith; valid = v; inside = l }

module _ {s ps : List ℕ} {t : List ℤ} {i₀ : ℕ} {r₀ : Reader} {reads i : ℕ} {r : Reader} (g : Walking s ps t i₀ r₀ reads i r) where
  -- what the walk answers, with n symbols read
  abbrev Answers : ReadOf ℕ → ℕ → Type 0
  Answers x n = (x ≡ walk_of 32 s ps t i₀ r₀) × (n ≡ count (walk 32 ps t i₀) s r₀)

  pub walking_end : 32 ≤ reads → Answers (Ok (0, r)) 32
  unfolding walk
  walking_end h = go g.left g.sum g.same g.counted
    where
      go : (n : ℕ) → reads + n ≡ 32 → run (walk 32 ps t i₀) s r₀ ≡ run (walk n ps t i) s r → count (walk 32 ps t i₀) s r₀ ≡ reads + count (walk n ps t i) s r → Answers (Ok (0, r)) 32
      go zero p e f = (walk_is s ps t 32 i₀ r₀ (e ∙ run_done {A = ℕ} 0 s r), omega (arith, f, count_done {A = ℕ} 0 s r))
      go (suc n) p e f = absurd (omega arith)

  module _ (h : reads < 32) where
    pub walking_missing : {u : Unread} → Err u ≡ tree_step_of s ps t i r → Answers (Err u) reads
    walking_missing f = rw (step_unread s ps t i r f) (go g.left g.sum g.same g.counted)
      where
        go : (n : ℕ) → reads + n ≡ 32 → run (walk 32 ps t i₀) s r₀ ≡ run (walk n ps t i) s r → count (walk 32 ps t i₀) s r₀ ≡ reads + count (walk n ps t i) s r → Answers (Err U.Missing) reads
        go zero p e k = absurd (omega arith)
        go (suc n) p e k = let d = stepped s ps t i r f in (walk_is s ps t 32 i₀ r₀ (e ∙ walk_stops s ps t i r n d), omega (arith, k, count_walk_stops s ps t n i r d))

    pub walking_leaf : {v : ℕ} {q : Reader} → Ok (B.Leaf v, q) ≡ tree_step_of s ps t i r → Answers (Ok (v, q)) (reads + 1)
    walking_leaf {v} {q} f = go g.left g.sum g.same g.counted
      where
        go : (n : ℕ) → reads + n ≡ 32 → run (walk 32 ps t i₀) s r₀ ≡ run (walk n ps t i) s r → count (walk 32 ps t i₀) s r₀ ≡ reads + count (walk n ps t i) s r → Answers (Ok (v, q)) (reads + 1)
        go zero p e k = absurd (omega arith)
        go (suc n) p e k =
            let d = stepped s ps t i r f in
            (walk_is s ps t 32 i₀ r₀ (e ∙ walk_then s ps t i r n d ∙ run_done v s q), omega (arith, k, count_walk_then s ps t n i r d, count_done {A = ℕ} v s q))

    pub walking_node : Bytes s → Bytes ps → Tree ps t → {j : ℕ} {q : Reader} → Ok (B.Node j, q) ≡ tree_step_of s ps t i r → Walking s ps t i₀ r₀ (reads + 1) j q
    walking_node y z b {j} {q} f = go g.left g.sum g.same g.counted
      where
        go : (n : ℕ) → reads + n ≡ 32 → run (walk 32 ps t i₀) s r₀ ≡ run (walk n ps t i) s r → count (walk 32 ps t i₀) s r₀ ≡ reads + count (walk n ps t i) s r → Walking s ps t i₀ r₀ (reads + 1) j q
        go zero p e k = absurd (omega arith)
        go (suc n) p e k =
            let d = stepped s ps t i r f in
            let w = run_valid (step_within ps t i b z g.inside) y g.valid d in
            record { left = n; sum = omega arith; same = e ∙ walk_then s ps t i r n d; counted = omega (arith, k, count_walk_then s ps t n i r d); valid = w.valid; inside = w.value.1 }

-- ---- `read_extra`: at bit i, where the bits before it make v
pub record Going (s ps : List ℕ) (r₀ next : Reader) (v i : ℕ) : Type 0 where
  pub same : run (extra_from v (drop i ps)) s next ≡ run (extra ps) s r₀
  pub counted : count (extra ps) s r₀ ≡ i + count (extra_from v (drop i ps)) s next
  pub valid : Valid s next
  pub small : v < 2 ^ i

pub going_start : {s ps : List ℕ} {r : Reader} → Valid s r → Going s ps r r 0 0
going_start v = record { same = refl; counted = omega arith; valid = v; small = omega arith }

module _ {s ps : List ℕ} {r₀ next : Reader} {v i : ℕ} (g : Going s ps r₀ next v i) where
  pub going_end : length ps ≡ i → (Ok (v, next) ≡ extra_of s ps r₀) × (length ps ≡ count (extra ps) s r₀)
  unfolding extra_of
  going_end e = let h : length ps ≤ i = omega arith in (ap to_read (sym (extra_end s ps v i next h) ∙ g.same), omega (arith, bits_end s ps v i next h, g.counted))

  pub going_missing : {u : Unread} → i < length ps → run (symbol (get_or ps i 0)) s next ≡ missing → u ≡ U.Missing → (Err u ≡ extra_of s ps r₀) × (i ≡ count (extra ps) s r₀)
  unfolding extra_of
  going_missing h e f = rw f (ap to_read (sym (extra_missing s ps v i next h e) ∙ g.same), omega (arith, bits_missing s ps v i next h e, g.counted))

  pub going_next : Bytes s → Bytes ps → i < length ps → (b : Bool) (after : Reader) → run (symbol (get_or ps i 0)) s next ≡ given b after → {w : ℕ} → w ≡ bit_of b → Going s ps r₀ after (v + v + w) (i + 1)
  going_next y z h b after e {w} k =
      record {
        same = rw k (sym (extra_got s ps v i next h e) ∙ g.same);
        counted = rw k (omega (arith, bits_got s ps v i next h e, g.counted));
        valid = (run_valid (within_symbol (z i)) y g.valid e).valid;
        small = rw k (rw add-one (omega (arith, bit_small b, g.small, pow-succ' 2 i)));
      }
