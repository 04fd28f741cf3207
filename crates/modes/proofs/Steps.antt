-- The reading over a wide reader, on plain values: a contract (`WideReads`) from the contracts of what follows, one step at a time.
use Rattle.numbers.specs.Words.{ℕ, zero, suc, ◌+◌, ◌*◌, ◌^◌, ◌≤◌, ◌<◌, arith, ◌≡◌, refl, sym, ◌∙◌, ap, Bool, true, false, not, lit<, List, length, get_or, set, replicate, ℤ}
use Rattle.header.specs.declared.frame.Announced.{Announced}
use Rattle.reader.specs.declared.trees.Branch.TheVariants as B
use Rattle.reader.specs.declared.boolean.Reader.{Reader}
use Rattle.reader.specs.Reading.{given, Reading, done, ◌>>=◌, symbol, run}
use Rattle.reader.specs.ReadingLaws.{Bytes, Valid}
use Rattle.reader.specs.Trees.{leaf, branch_of, branch_at_of, walk}
use Rattle.wide.specs.Padded.{run_padded}
use Rattle.wide.specs.declared.wide.Bit.{Bit}
use Rattle.wide.specs.declared.wide.Wide.{Wide}
use Rattle.wide.specs.Wide.{fill_of, wide_bit_of, widen_of, eight_inside, narrow_of}
use Rattle.wide.specs.WideLaws.{Sim}
use Rattle.wide.specs.WideRuns.{WideReads, Gave, Going, going_start, going_fill, going_bit, going_done, going_call, going_last, reads_as, reads_then, walking_start, walking_node, walking_leaf, wide_run}
use Rattle.modes.specs.Modes.{Prefix, Modes, seg_tree, tree, segment, skip, prefix, large_mode_of, block_mode_of, mode_above_of, mode_left_of, small_from, zeros, small_modes_of, luma, Macroblock, modes_of, Kinds, macroblock_of}
use Rattle.modes.specs.ModesLaws.{set_modes, zeros_modes}
use Rattle.modes.specs.Quick.{last_of}

-- ---- the last symbol of a walk: one of two leaves
module _ (w : Wide) (prob low high : ℕ) where
  pub last_high : {q : Bit} → q ≡ wide_bit_of w prob → q.on ≡ true → ◌≡◌ {A = ℕ × Wide} (high, q.next) (last_of w prob low high)
  last_high e o = rw (← e, o)

  pub last_low : {q : Bit} → q ≡ wide_bit_of w prob → q.on ≡ false → ◌≡◌ {A = ℕ × Wide} (low, q.next) (last_of w prob low high)
  last_low e o = rw (← e, o)

  pub last_below : (n : ℕ) {q : ℕ × Wide} → q ≡ last_of w prob low high → low < n → high < n → q.0 < n
  last_below n e l h = rw e (go (wide_bit_of w prob).on)
    where
      go : (b : Bool) → elim b [ true ↦ high | false ↦ low ] < n
      go true = h
      go false = l

pub branch_leaf : (v : ℕ) → branch_of (leaf v) ≡ B.Leaf v
branch_leaf zero = refl
branch_leaf (suc v) = refl

-- ---- a walk, from each node on, with 8 + k bits loaded
module _ (s ps : List ℕ) (t : List ℤ) (y : Bytes s) (z : Bytes ps) (k n m i : ℕ) (w : Wide) where
  module _ (b : Bool) {q : Bit} (e : q ≡ wide_bit_of w (get_or ps i 0)) (o : q.on ≡ b) where
    pub walk_node : {j a : ℕ} {x : Wide} → branch_at_of t i b ≡ B.Node j → WideReads s (suc k) n (walk m ps t j) q.next a x → WideReads s (suc k + 7) n (walk (suc m) ps t i) w a x
    walk_node f h r v l g = going_last (walking_node k m y (z i) refl (walking_start (suc m) i r v l g) e o f).going h (omega arith) (omega arith)

    pub walk_leaf : {a : ℕ} → branch_at_of t i b ≡ B.Leaf a → WideReads s (suc k + 7) n (walk (suc m) ps t i) w a q.next
    walk_leaf f r v l g = walking_leaf k m y (z i) refl (walking_start (suc m) i r v l g) e o f refl

  pub walk_last : {low high : ℕ} {q : ℕ × Wide} → q ≡ last_of w (get_or ps i 0) low high → branch_at_of t i false ≡ B.Leaf low → branch_at_of t i true ≡ B.Leaf high → WideReads s (suc k + 7) n (walk (suc m) ps t i) w q.0 q.1
  walk_last {low} {high} {q} e f g = go (wide_bit_of w (get_or ps i 0)).on refl
    where
      go : (b : Bool) → (wide_bit_of w (get_or ps i 0)).on ≡ b → WideReads s (suc k + 7) n (walk (suc m) ps t i) w q.0 q.1
      go true o r v l b = rw e (walking_leaf k m y (z i) refl (walking_start (suc m) i r v l b) refl o g (ap (λ (c : Bool). elim c [ true ↦ high | false ↦ low ]) o))
      go false o r v l b = rw e (walking_leaf k m y (z i) refl (walking_start (suc m) i r v l b) refl o f (ap (λ (c : Bool). elim c [ true ↦ high | false ↦ low ]) o))

module _ {A : Type 0} (s : List ℕ) (g : Reading A) {w : Wide} {a : A} {x : Wide} where
  pub reads_fill : (n k : ℕ) {q : Wide} → q ≡ fill_of s w → WideReads s 32 n g q a x → WideReads s k (n + 4) g w a x
  reads_fill n k e h r v l b = going_last (going_fill n (going_start g r v l b) e) h (omega arith) (omega arith)

  pub reads_more : (j k i n : ℕ) → j ≤ k → i ≤ n → WideReads s j i g w a x → WideReads s k n g w a x
  reads_more j k i n p q h r v l b = going_last (going_start g r v l b) h p q

pub reads_symbol : (s : List ℕ) (p : ℕ) (w : Wide) {q : Bit} → Bytes s → p < 256 → q ≡ wide_bit_of w p → WideReads s 8 0 (symbol p) w q.on q.next
reads_symbol s p w y h e r v l b = going_done (going_bit 0 y h (going_start (symbol p) r v l b) e refl) refl

-- ---- before the modes
module _ (a : Announced) where
  pub no_segment : a.map ≡ false → done 0 ≡ segment a
  unfolding segment
  no_segment e = rw e

  pub some_segment : a.map ≡ true → tree a.map_probabilities seg_tree ≡ segment a
  unfolding segment
  some_segment e = rw e

  pub no_skip : a.skips ≡ false → done false ≡ skip a
  unfolding skip
  no_skip e = rw e

  pub some_skip : a.skips ≡ true → symbol a.skip_probability ≡ skip a
  unfolding skip
  some_skip e = rw e

  pub reads_prefix : (s : List ℕ) → Bytes s → {w x f y z : Wide} {v : ℕ} {k : Bool} {q : Bit} → WideReads s 0 4 (segment a) w v x → f ≡ fill_of s x → WideReads s 8 0 (skip a) f k y → z ≡ fill_of s y → q ≡ wide_bit_of z 145 → WideReads s 0 12 (prefix a) w (record { segment = v; skip = k; small = not q.on }) q.next
  unfolding prefix
  reads_prefix s y g e h f o r m l b =
      let flag : ℕ → Bool → Reading Prefix = (λ v k. symbol 145 >>= (λ large. done (record { segment = v; skip = k; small = not large }))) in
      let first = going_call 8 4 (segment a) (λ v. skip a >>= flag v) (going_start (prefix a) r m l b) g (omega arith) (omega arith) in
      let second = going_call 4 0 (skip a) (flag _) (going_fill 4 first e) h (omega arith) (omega arith) in
      going_done (going_bit 24 y (lit< tt) (going_fill 0 second f) o refl) refl

-- ---- the modes: sixteen small ones, at block i with the modes so far; a large one; all
pub record Coding (s above left : List ℕ) (start : Wide) (i : ℕ) (w : Wide) (modes : List ℕ) : Type 0 where
  pub more : ℕ
  pub sum : i + more ≡ 16
  pub each : Modes modes
  pub going : (r : Reader) → Sim s start r → start.at + 128 < 2 ^ 64 → Going s (run_padded (small_modes_of above left) s r) (start.at + 128) 0 (8 * more) (small_from more i above left modes) w

module _ (s above left : List ℕ) (start : Wide) where
  pub coding_start : Coding s above left start 0 start zeros
  unfolding small_modes_of
  coding_start = record { more = 16; sum = refl; each = zeros_modes; going = λ r m f. going_start (small_modes_of above left) r m (omega arith) f }

  module _ {i : ℕ} {w : Wide} {modes : List ℕ} (c : Coding s above left start i w modes) where
    pub coding_next : {u b v : ℕ} {q : Wide} → i < 16 → u ≡ mode_above_of above modes i → b ≡ mode_left_of left modes i → WideReads s 0 8 (block_mode_of u b) w v q → v < 10 → Coding s above left start (i + 1) q (set modes i v)
    unfolding small_from
    coding_next {u} {b} {v} {q} l e f h d = go c.more c.sum c.going
      where
        asked : WideReads s 0 8 (block_mode_of (mode_above_of above modes i) (mode_left_of left modes i)) w v q
        asked = rw (← e, ← f) h

        go : (n : ℕ) → i + n ≡ 16 → ((r : Reader) → Sim s start r → start.at + 128 < 2 ^ 64 → Going s (run_padded (small_modes_of above left) s r) (start.at + 128) 0 (8 * n) (small_from n i above left modes) w) → Coding s above left start (i + 1) q (set modes i v)
        go zero p g = absurd (omega arith)
        go (suc n) p g =
            record {
              more = n;
              sum = omega arith;
              each = set_modes modes i v d c.each;
              going = λ r m f. going_call (8 * n) 8 (block_mode_of (mode_above_of above modes i) (mode_left_of left modes i)) (λ v. small_from n (i + 1) above left (set modes i v)) (g r m f) asked (omega arith) (omega arith);
            }

    pub coding_end : 16 ≤ i → WideReads s 0 128 (small_modes_of above left) start modes w
    unfolding small_from
    coding_end l r m k f = go c.more c.sum (c.going r m f)
      where
        go : (n : ℕ) → i + n ≡ 16 → Going s (run_padded (small_modes_of above left) s r) (start.at + 128) 0 (8 * n) (small_from n i above left modes) w → Gave s (run_padded (small_modes_of above left) s r) (start.at + 128) modes w
        go zero p g = going_done g refl
        go (suc n) p g = absurd (omega arith)

module _ (s : List ℕ) (small : Bool) (above left : List ℕ) {w q : Wide} where
  pub luma_small : {l : List ℕ} → small ≡ true → WideReads s 0 128 (small_modes_of above left) w l q → WideReads s 0 128 (luma small above left) w l q
  luma_small e = reads_as s 0 128 (ap (λ (b : Bool). luma b above left) (sym e))

  pub luma_large : {m : ℕ} → small ≡ false → WideReads s 0 4 (large_mode_of false) w m q → WideReads s 0 128 (luma small above left) w (replicate 16 m) q
  luma_large {m} e h =
      reads_as s 0 128 (ap (λ (b : Bool). luma b above left) (sym e))
      (reads_more s (luma false above left) 0 0 4 128 (omega arith) (omega arith) (reads_then s 0 4 (large_mode_of false) (replicate 16) h))

pub reads_modes : (s : List ℕ) (a : Announced) (above left : List ℕ) {w x y z : Wide} {p : Prefix} {l : List ℕ} {c : ℕ} → WideReads s 0 12 (prefix a) w p x → WideReads s 0 128 (luma p.small above left) x l y → WideReads s 0 4 (large_mode_of true) y c z → WideReads s 0 144 (modes_of a above left) w (record { segment = p.segment; skip = p.skip; small = p.small; modes = l; chroma = c }) z
unfolding modes_of
reads_modes s a above left {p} {l} g h k r m i b =
    let third : Prefix → List ℕ → Reading Macroblock = (λ p l. large_mode_of true >>= (λ c. done (record { segment = p.segment; skip = p.skip; small = p.small; modes = l; chroma = c }))) in
    let second : Prefix → Reading Macroblock = (λ p. luma p.small above left >>= third p) in
    let x = going_call 132 12 (prefix a) second (going_start (modes_of a above left) r m i b) g (omega arith) (omega arith) in
    let y = going_call 4 128 (luma p.small above left) (third p) x h (omega arith) (omega arith) in
    going_done (going_call 0 4 (large_mode_of true) (λ c. done (record { segment = p.segment; skip = p.skip; small = p.small; modes = l; chroma = c })) y k (omega arith) (omega arith)) refl

-- ---- back to a reader: read inside the partition
pub wide_modes : (s : List ℕ) (a : Announced) (r : Reader) (above left : List ℕ) → Bytes s → Valid s r → length s < 2 ^ 63 → {x q : Wide} {k : Kinds} {l : List ℕ} {b : Bool} → x ≡ widen_of r → WideReads s 0 144 (modes_of a above left) x (macroblock_of k l) q → b ≡ eight_inside s q → b ≡ true → run (modes_of a above left) s r ≡ given (macroblock_of k l) (narrow_of s q)
wide_modes s a r above left y v f e h i j = wide_run s r (modes_of a above left) 144 y v (omega (arith, v.inside)) (rw e at h) (sym i ∙ j)
