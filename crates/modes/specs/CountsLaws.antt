-- The laws of the modes' counts: modes that were read say how many symbols they took.
use Rattle.std.specs.Prelude.{◌+◌, ◌≤◌, ◌<◌, ◌≡◌, ◌&&◌, ◌∷◌}
use Rattle.numbers.specs.Words.{ℕ, zero, suc, add-one, add-zero, arith, refl, sym, ◌∙◌, ap, Bool, true, false, leb, lit≤, both_true, both_false, leb-true, bit_of, List, [], length, get_or, set, length-set, get_or-set_other, get_or-set_same, all_of_any}
use Rattle.header.specs.declared.frame.Announced.{Announced}
use Rattle.reader.specs.declared.boolean.Reader.{Reader}
use Rattle.reader.specs.Reading.{given, valid_of, symbol, run, count}
use Rattle.reader.specs.ReadingLaws.{Valid, valid_test}
use Rattle.reader.specs.Counts.{Costs, ends}
use Rattle.reader.specs.CountsLaws.{costs_reads, costs_bind, costs_after, costs_symbol, costs_walk}
use Rattle.modes.specs.Table.{probabilities}
use Rattle.modes.specs.Modes.{Prefix, seg_tree, y_tree, uv_tree, b_tree, tree, optional, segment, skip, prefix, large_mode_of, block_mode_of, mode_above_of, mode_left_of, small_from, zeros, small_modes_of, luma, Macroblock, modes_of, contexts_of, modes_reads, prefix_reads_of, large_reads, small_depths, small_reads_of, luma_reads_of, modes_read_of}

-- ---- the parts' costs
segment_costs : (a : Announced) → Costs (λ (v : ℕ). bit_of a.map + bit_of a.map) 0 (segment a)
unfolding segment
segment_costs a = go a.map
  where
    go : (b : Bool) → Costs (λ (v : ℕ). bit_of b + bit_of b) 0 (optional b 0 (tree a.map_probabilities seg_tree))
    go true = costs_walk 2 32 0 (λ v. 2) a.map_probabilities seg_tree 0 (lit≤ tt) refl
    go false = ends refl

skip_costs : (n : ℕ) (a : Announced) → Costs (λ (b : Bool). n + bit_of a.skips) n (skip a)
unfolding skip
skip_costs n a = go a.skips
  where
    go : (c : Bool) → Costs (λ (b : Bool). n + bit_of c) n (optional c false (symbol a.skip_probability))
    go true = rw (← add-one n) at (costs_symbol n a.skip_probability)
    go false = ends (add-zero n)

prefix_costs : (a : Announced) → Costs (λ (p : Prefix). prefix_reads_of a) 0 (prefix a)
unfolding prefix
prefix_costs a =
    costs_bind (segment_costs a) (λ v.
    costs_bind (skip_costs (bit_of a.map + bit_of a.map) a) (λ b.
    costs_bind (costs_symbol (bit_of a.map + bit_of a.map + bit_of a.skips) 145) (λ d. ends (add-one (bit_of a.map + bit_of a.map + bit_of a.skips)))))

large_costs : (chroma : Bool) → Costs (large_reads chroma) 0 (large_mode_of chroma)
large_costs true = costs_walk 3 32 0 (large_reads true) (142 ∷ 114 ∷ 183 ∷ []) uv_tree 0 (lit≤ tt) refl
large_costs false = costs_walk 3 32 0 (large_reads false) (156 ∷ 163 ∷ 128 ∷ []) y_tree 0 (lit≤ tt) refl

block_costs : (above left : ℕ) → Costs (λ v. get_or small_depths v 0) 0 (block_mode_of above left)
block_costs above left = costs_walk 7 32 0 (λ v. get_or small_depths v 0) (probabilities above left) b_tree 0 (lit≤ tt) refl

-- a mode that is set later leaves the sum before it as it is
small_before : (n i v : ℕ) (modes : List ℕ) → n ≤ i → small_reads_of n (set modes i v) ≡ small_reads_of n modes
unfolding small_reads_of
small_before zero i v modes h = refl
small_before (suc n) i v modes h =
    ap (λ (k : ℕ). k + get_or small_depths (get_or (set modes i v) n 0) 0) (small_before n i v modes (omega arith))
    ∙ ap (λ (m : ℕ). small_reads_of n modes + get_or small_depths m 0) (get_or-set_other modes i n v 0 (λ e. omega arith))

small_set : (i v : ℕ) (modes : List ℕ) → i < length modes → small_reads_of (i + 1) (set modes i v) ≡ small_reads_of i modes + get_or small_depths v 0
unfolding small_reads_of
small_set i v modes h =
    ap (λ (n : ℕ). small_reads_of n (set modes i v)) (add-one i)
    ∙ ap (λ (k : ℕ). k + get_or small_depths (get_or (set modes i v) i 0) 0) (small_before i i v modes (omega arith))
    ∙ ap (λ (m : ℕ). small_reads_of i modes + get_or small_depths m 0) (get_or-set_same modes i v 0 h)

small_costs : (n i : ℕ) (above left modes : List ℕ) → i + n ≡ 16 → length modes ≡ 16 → Costs (small_reads_of 16) (small_reads_of i modes) (small_from n i above left modes)
unfolding small_from
small_costs zero i above left modes e l = let h : 16 ≡ i = omega arith in ends (ap (λ (j : ℕ). small_reads_of j modes) h)
small_costs (suc n) i above left modes e l =
    costs_bind (costs_after (small_reads_of i modes) (block_costs (mode_above_of above modes i) (mode_left_of left modes i))) (λ v.
    rw (small_set i v modes (omega arith)) at (small_costs n (i + 1) above left (set modes i v) (omega arith) (length-set modes i v ∙ l)))

luma_costs : (small : Bool) (above left : List ℕ) → Costs (luma_reads_of small) 0 (luma small above left)
unfolding small_modes_of small_reads_of
luma_costs true above left = small_costs 16 0 above left zeros refl refl
luma_costs false above left = costs_bind (large_costs false) (λ m. ends refl)

modes_costs : (a : Announced) (above left : List ℕ) → Costs (modes_read_of a) 0 (modes_of a above left)
unfolding modes_of
modes_costs a above left =
    costs_bind (prefix_costs a) (λ p.
    costs_bind (costs_after (prefix_reads_of a) (luma_costs p.small above left)) (λ l.
    costs_bind (costs_after (prefix_reads_of a + luma_reads_of p.small l) (large_costs true)) (λ c. ends refl)))

-- modes that were read say how many symbols they took
pub modes_read_lem : (a : Announced) (above left s : List ℕ) (r : Reader) {m : Macroblock} {q : Reader} → run (modes_of a above left) s r ≡ given m q → count (modes_of a above left) s r ≡ modes_read_of a m
modes_read_lem a above left s r e = costs_reads (modes_costs a above left) s r e

-- no mode stands deeper than seven, no chroma mode deeper than three
pub depth_bounded : (v : ℕ) {l : List ℕ} {n : ℕ} → l ≡ small_depths → n ≡ get_or l v 0 → (n ≡ get_or small_depths v 0) × (n ≤ 7)
depth_bounded v e f =
    let g = f ∙ ap (λ (l : List ℕ). get_or l v 0) e in
    (g, rw g (leb-true (get_or small_depths v 0) 7 (all_of_any (λ x. leb x 7) small_depths 0 refl refl v)))

pub chroma_bounded : (v : ℕ) {n : ℕ} → n ≡ large_reads true v → (n ≡ large_reads true v) × (n ≤ 3)
chroma_bounded v e = (e, rw e (leb-true (large_reads true v) 3 (all_of_any (λ x. leb x 3) (1 ∷ 3 ∷ 2 ∷ 3 ∷ []) 0 refl refl v)))

-- the sum over the modes that were read, one after the other
pub reads_none : (modes : List ℕ) → small_reads_of 0 modes ≡ 0
unfolding small_reads_of
reads_none modes = refl

pub reads_next : (i : ℕ) (modes : List ℕ) → small_reads_of i modes + get_or small_depths (get_or modes i 0) 0 ≡ small_reads_of (i + 1) modes
unfolding small_reads_of
reads_next i modes = sym (ap (λ (n : ℕ). small_reads_of n modes) (add-one i))

-- ---- `read_modes`
module _ (s : List ℕ) (a : Announced) (r : Reader) (above left : List ℕ) where
  -- THE LAW for its callers: with arguments in range it is the grammar's count
  pub reads_good : Valid s r → contexts_of above left ≡ true → modes_reads s a r above left ≡ count (modes_of a above left) s r
  unfolding modes_reads
  reads_good v e = rw (both_true (valid_test s r v) e, modes_reads)

  refused : valid_of s r && contexts_of above left ≡ false → 0 ≡ modes_reads s a r above left
  unfolding modes_reads
  refused e = rw (e, modes_reads)

  pub reads_reader : valid_of s r ≡ false → 0 ≡ modes_reads s a r above left
  reads_reader e = refused (rw e)

  pub reads_contexts : contexts_of above left ≡ false → 0 ≡ modes_reads s a r above left
  reads_contexts e = refused (both_false (valid_of s r) e)
