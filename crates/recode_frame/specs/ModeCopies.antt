-- The modes of a macroblock, read and written again: the steps of the proofs.
use Rattle.std.specs.Prelude.{◌+◌, ◌-◌, ◌%◌, ◌≤◌, ◌<◌, ◌≡◌}
use Rattle.numbers.specs.Words.{ℕ, zero, suc, arith, refl, sym, ◌∙◌, ap, subst, Bool, true, false, not, lit<, lt-ltb, bit_of, List, [], length, get_or, set, replicate, length-replicate, length-set, set_keeps, ℤ}
use Rattle.header.specs.declared.frame.Announced.{Announced}
use Rattle.modes.specs.ModesLaws.{each_fact, zeros_modes, set_modes, bottom_modes, right_modes}
use Rattle.modes.specs.Table.{probabilities}
use Rattle.modes.specs.Modes.{Modes, tree, optional, seg_tree, b_tree, segment, skip, prefix, large_mode_of, block_mode_of, mode_above_of, mode_left_of, small_from, small_modes_of, zeros, luma, Macroblock, modes_of, bottom_of, right_of}
use Rattle.reader.specs.declared.boolean.Reader.{Reader}
use Rattle.reader.specs.declared.trees.Branch.{Branch}
use Rattle.reader.specs.declared.trees.Branch.TheVariants as B
use Rattle.reader.specs.Reading.{Reading, done, ◌>>=◌, symbol}
use Rattle.reader.specs.Trees.{at_of, branch_at_of, follow, step, walk}
use Rattle.writer.specs.Encoder.{Encoder}
use Rattle.recode.specs.declared.pipe.Pipe.{Pipe}
use Rattle.recode.specs.Copies.{same, Going, Copies, gave_as, going_done, going_as, going_call}
use Rattle.recode_frame.specs.RecodeFrame.{left_of, modes_from, no_tops}
use Rattle.recode_frame.specs.HeaderCopies.{Copied, copies_done, copies_as, copies_then}

-- ---- a tree as a table: entry `at_of i b` is where bit b leads from node i of n, a later node, or n and the leaf
abbrev pub LedTo : (n i : ℕ) → ℕ → Branch → Type 0
LedTo n i x (B.Leaf v) = x ≡ n + v
LedTo n i x (B.Node j) = (x ≡ j) × (j < n)

pub record Leading (n : ℕ) (leads : List ℕ) : Type 0 where
  pub size : length leads ≡ n + n
  pub later : (i : ℕ) (b : Bool) → i < n → i < get_or leads (at_of i b) 0
  pub byte : (k : ℕ) → get_or leads k 0 < 256

abbrev pub Led : ℕ → List ℕ → List ℤ → Type 0
Led n leads t = (i : ℕ) (b : Bool) → i < n → LedTo n i (get_or leads (at_of i b) 0) (branch_at_of t i b)

-- every entry below n + m: then every leaf is below m
abbrev pub Leaves : (n m : ℕ) → List ℕ → Type 0
Leaves n m leads = (k : ℕ) → get_or leads k 0 < n + m

-- on the way down: at a node, or at a leaf
pub record Down (s ps : List ℕ) (t : List ℤ) (n : ℕ) (a : ℕ) (r2 : Reader) (F : Encoder) (old : List ℕ) (p : Pipe) (i : ℕ) (room : List ℕ) : Type 0 where
  pub left : ℕ
  pub enough : n ≤ i + left
  pub node : i < n → Going s a r2 F old (walk left ps t i) p room
  pub leaf : n ≤ i → Going s a r2 F old (done (i - n)) p room

pub record Walking (s ps leads : List ℕ) (p₀ : Pipe) (room₀ : List ℕ) (p : Pipe) (i : ℕ) (room : List ℕ) : Type 0 where
  pub long : length room ≡ length room₀
  pub byte : i < 256
  pub below : (m : ℕ) → 0 < m → Leaves (length ps) m leads → i < length ps + m
  pub way : (t : List ℤ) → Led (length ps) leads t → (a : ℕ) (r2 : Reader) (F : Encoder) (old : List ℕ) → Going s a r2 F old (tree ps t) p₀ room₀ → Down s ps t (length ps) a r2 F old p i room

pub walking_start : (s ps leads : List ℕ) (p : Pipe) (room : List ℕ) → 0 < length ps → length ps ≤ 32 → Walking s ps leads p room p 0 room
walking_start s ps leads p room h l =
    record {
      long = refl;
      byte = lit< tt;
      below = λ m k e. omega arith;
      way = λ t e a r2 F old g. record { left = 32; enough = omega arith; node = λ k. g; leaf = λ k. absurd (omega arith) };
    }

walk_asks : (f : ℕ) (ps : List ℕ) (t : List ℤ) (i : ℕ) → walk (suc f) ps t i ≡ (symbol (get_or ps i 0) >>= (λ b. follow (walk f ps t) (branch_at_of t i b)))
unfolding walk step
walk_asks f ps t i = refl

module _ {s ps leads : List ℕ} {p₀ : Pipe} {room₀ : List ℕ} {p : Pipe} {i : ℕ} {room : List ℕ} (w : Walking s ps leads p₀ room₀ p i room) where
  pub walking_next : i < length ps → Leading (length ps) leads → {b : Bool} {q : Pipe} {new : List ℕ} → Copies same (symbol (get_or ps i 0)) s p room b q new → length new ≡ length room → {x : ℕ} → x ≡ get_or leads (at_of i b) 0 → Walking s ps leads p₀ room₀ q x new
  walking_next h l {b} {q} {new} c k {x} e =
      record {
        long = k ∙ w.long;
        byte = omega (arith, l.byte (at_of i b), e);
        below = λ m o f. omega (arith, f (at_of i b), e);
        way = λ t d a r2 F old g.
            let z = w.way t d a r2 F old g in
            go t a r2 F old z.left z.enough (z.node h) (d i b h);
      }
    where
      n : ℕ
      n = length ps

      go : (t : List ℤ) (a : ℕ) (r2 : Reader) (F : Encoder) (old : List ℕ) (f : ℕ) → n ≤ i + f → Going s a r2 F old (walk f ps t i) p room → LedTo n i (get_or leads (at_of i b) 0) (branch_at_of t i b) → Down s ps t n a r2 F old q x new
      go t a r2 F old zero o g d = absurd (omega arith)
      go t a r2 F old (suc f) o g d =
          let y = going_call (symbol (get_or ps i 0)) (λ b. follow (walk f ps t) (branch_at_of t i b)) (going_as (walk_asks f ps t i) g) c in
          let u : Going s a r2 F old (follow (walk f ps t) (branch_at_of t i b)) q new = going_as (ap (λ (z : Bool). follow (walk f ps t) (branch_at_of t i z)) (sym y.seen)) y.going in
          at (branch_at_of t i b) refl d u
        where
          at : (z : Branch) → branch_at_of t i b ≡ z → LedTo n i (get_or leads (at_of i b) 0) z → Going s a r2 F old (follow (walk f ps t) (branch_at_of t i b)) q new → Down s ps t n a r2 F old q x new
          at (B.Leaf v) j d u =
              let y : x ≡ n + v = e ∙ d in
              record { left = f; enough = omega arith; node = λ m. absurd (omega arith); leaf = λ m. going_as (ap (follow (walk f ps t)) j ∙ ap done {x = v} {y = x - n} (omega arith)) u }
          at (B.Node j) y d u =
              let z : x ≡ j = e ∙ d.0 in
              let m = l.later i b h in
              record { left = f; enough = omega (arith, e); node = λ m. going_as (ap (follow (walk f ps t)) y ∙ ap (walk f ps t) (sym z)) u; leaf = λ m. absurd (omega (arith, d.1)) }

  pub walking_end : length ps ≤ i → (t : List ℤ) → Led (length ps) leads t → Copies same (tree ps t) s p₀ room₀ (i - length ps) p room
  walking_end h t d a r2 F old g = going_done ((w.way t d a r2 F old g).leaf h) refl

  pub walking_below : length ps ≤ i → (m : ℕ) → 0 < m → Leaves (length ps) m leads → i - length ps < m
  walking_below h m o f = omega (arith, w.below m o f)

-- a bit is the place of its entry
at_is : (i : ℕ) (b : Bool) → i + i + bit_of b ≡ at_of i b
at_is i true = refl
at_is i false = omega arith

-- what the code finds there
pub led_at : {n : ℕ} {leads : List ℕ} → Leading n leads → (i : ℕ) (b : Bool) → i < n → (get_or leads (i + i + bit_of b) 0 ≡ get_or leads (at_of i b) 0) × (i < get_or leads (i + i + bit_of b) 0) × (get_or leads (i + i + bit_of b) 0 < 256)
led_at {leads = leads} l i b h = (ap (λ (k : ℕ). get_or leads k 0) (at_is i b), subst (λ (k : ℕ). i < get_or leads k 0) (sym (at_is i b)) (l.later i b h), l.byte (i + i + bit_of b))

-- ---- a part that is read where it is announced
module _ {A B : Type 0} {see : A → B} {s : List ℕ} {p : Pipe} {room : List ℕ} {b : B} (on : Bool) (a : A) (m : Reading A) where
  pub optional_not : on ≡ false → b ≡ see a → Copies see (optional on a m) s p room b p room
  optional_not e f = subst (λ (x : Bool). Copies see (optional x a m) s p room b p room) (sym e) (copies_done f)

  pub optional_read : on ≡ true → {q : Pipe} {new : List ℕ} → Copies see m s p room b q new → Copies see (optional on a m) s p room b q new
  optional_read e {q} {new} c = subst (λ (x : Bool). Copies see (optional x a m) s p room b q new) (sym e) c

module _ {s : List ℕ} {p : Pipe} {room : List ℕ} (a : Announced) where
  pub segment_not : a.map ≡ false → Copied (segment a) s p room p room
  unfolding segment
  segment_not e = optional_not a.map 0 (tree a.map_probabilities seg_tree) e refl

  pub segment_read : a.map ≡ true → {v : ℕ} {q : Pipe} {new : List ℕ} → Copies same (tree a.map_probabilities seg_tree) s p room v q new → Copied (segment a) s p room q new
  unfolding segment
  segment_read e c = optional_read a.map 0 (tree a.map_probabilities seg_tree) e (unseen c)
    where
      unseen : {v : ℕ} {q : Pipe} {new : List ℕ} → Copies same (tree a.map_probabilities seg_tree) s p room v q new → Copied (tree a.map_probabilities seg_tree) s p room q new
      unseen c x r2 F old g = gave_as (c x r2 F old g) (λ y e. refl)

  pub skip_not : a.skips ≡ false → Copied (skip a) s p room p room
  unfolding skip
  skip_not e = optional_not a.skips false (symbol a.skip_probability) e refl

  pub skip_read : a.skips ≡ true → {v : Bool} {q : Pipe} {new : List ℕ} → Copies same (symbol a.skip_probability) s p room v q new → Copied (skip a) s p room q new
  unfolding skip
  skip_read e c = optional_read a.skips false (symbol a.skip_probability) e (λ x r2 F old g. gave_as (c x r2 F old g) (λ y e. refl))

-- ---- the sixteen small modes
pub record Sixteen (s top left : List ℕ) (p₀ : Pipe) (room₀ : List ℕ) (p : Pipe) (i : ℕ) (modes room : List ℕ) : Type 0 where
  pub most : i ≤ 16
  pub long : length room ≡ length room₀
  pub fine : Modes modes
  pub way : (a : List ℕ) (r2 : Reader) (F : Encoder) (old : List ℕ) → Going s a r2 F old (small_modes_of top left) p₀ room₀ → Going s a r2 F old (small_from (16 - i) i top left modes) p room

pub block_copied_lem : {s : List ℕ} {p : Pipe} {room : List ℕ} (up by : ℕ) {ps : List ℕ} {m : ℕ} {q : Pipe} {new : List ℕ} → ps ≡ probabilities up by → Copies same (tree ps b_tree) s p room m q new → Copies same (block_mode_of up by) s p room m q new
block_copied_lem up by e c = copies_as (ap (λ (x : List ℕ). tree x b_tree) e) c

pub sixteen_start : (s top left : List ℕ) (p : Pipe) (room : List ℕ) → Sixteen s top left p room p 0 zeros room
unfolding small_modes_of
sixteen_start s top left p room = record { most = omega arith; long = refl; fine = zeros_modes; way = λ a r2 F old g. g }

small_asks : (n i : ℕ) (top left modes : List ℕ) → small_from (suc n) i top left modes ≡ (block_mode_of (mode_above_of top modes i) (mode_left_of left modes i) >>= (λ m. small_from n (i + 1) top left (set modes i m)))
unfolding small_from
small_asks n i top left modes = refl

small_none : (i : ℕ) (top left modes : List ℕ) → small_from 0 i top left modes ≡ done modes
unfolding small_from
small_none i top left modes = refl

module _ {s top left : List ℕ} {p₀ : Pipe} {room₀ : List ℕ} {p : Pipe} {i : ℕ} {modes room : List ℕ} (w : Sixteen s top left p₀ room₀ p i modes room) where
  pub sixteen_next : i < 16 → {up by m : ℕ} {q : Pipe} {new : List ℕ} → up ≡ mode_above_of top modes i → by ≡ mode_left_of left modes i → Copies same (block_mode_of up by) s p room m q new → m < 10 → length new ≡ length room → Sixteen s top left p₀ room₀ q (i + 1) (set modes i m) new
  sixteen_next h {up} {by} {m} {q} {new} u v c l k =
      record {
        most = omega arith;
        long = k ∙ w.long;
        fine = set_modes modes i m l w.fine;
        way = λ a r2 F old g.
            let n : ℕ = 16 - (i + 1) in
            let f : 16 - i ≡ suc n = omega arith in
            let d = going_call (block_mode_of up by) (λ x. small_from n (i + 1) top left (set modes i x))
            (going_as (ap (λ (l : ℕ). small_from l i top left modes) f ∙ small_asks n i top left modes ∙ (λ j. block_mode_of (sym u j) (sym v j) >>= (λ x. small_from n (i + 1) top left (set modes i x)))) (w.way a r2 F old g)) c in
            going_as (ap (λ (x : ℕ). small_from n (i + 1) top left (set modes i x)) (sym d.seen)) d.going;
      }

  pub sixteen_end : 16 ≤ i → Copies same (small_modes_of top left) s p₀ room₀ modes p room
  sixteen_end h a r2 F old g =
      let e : 16 - i ≡ 0 = omega arith in
      going_done (going_as (ap (λ (l : ℕ). small_from l i top left modes) e ∙ small_none i top left modes) (w.way a r2 F old g)) refl

-- ---- luma, and all of a macroblock
pub luma_small : {s : List ℕ} (top left : List ℕ) (large : Bool) {p : Pipe} {room : List ℕ} {modes : List ℕ} {q : Pipe} {new : List ℕ} → large ≡ false → Copies same (small_modes_of top left) s p room modes q new → Copies same (luma (not large) top left) s p room modes q new
luma_small {s} top left large {p} {room} {modes} {q} {new} e c = subst (λ (x : Bool). Copies same (luma (not x) top left) s p room modes q new) (sym e) c

pub luma_large : {s : List ℕ} (top left : List ℕ) (large : Bool) {p : Pipe} {room : List ℕ} {m : ℕ} {q : Pipe} {new : List ℕ} → large ≡ true → Copies same (large_mode_of false) s p room m q new → Copies same (luma (not large) top left) s p room (replicate 16 m) q new
luma_large {s} top left large {p} {room} {m} {q} {new} e c =
    subst (λ (x : Bool). Copies same (luma (not x) top left) s p room (replicate 16 m) q new) (sym e)
    (copies_then (large_mode_of false) (λ x. done (replicate 16 x)) c (λ d h. copies_done (ap (replicate 16) h)))

pub constant_modes : {m : ℕ} → m < 10 → Modes (replicate 16 m)
constant_modes {m} h = each_fact 10 (replicate 16 m) (lit< tt) (rw (lt-ltb m 10 h))

-- its caller sees its luma modes
abbrev pub luma_of : Macroblock → List ℕ
luma_of m = m.modes

pub modes_copied : {s : List ℕ} (top left : List ℕ) (a : Announced) {p q u v w x : Pipe} {room r1 r2 r3 r4 r5 : List ℕ} {large : Bool} {modes : List ℕ} {chroma : ℕ} → Copied (segment a) s p room q r1 → Copied (skip a) s q r1 u r2 → Copies same (symbol 145) s u r2 large v r3
    → Copies same (luma (not large) top left) s v r3 modes w r4 → Copies same (large_mode_of true) s w r4 chroma x r5 → Copies luma_of (modes_of a top left) s p room modes x r5
unfolding modes_of prefix
modes_copied {s} top left a {v = v} {w} {r3 = r3} {r4} {large = large} {modes} k l m n o =
    copies_then (prefix a) (λ z. luma z.small top left >>= (λ y. large_mode_of true >>= (λ c. done (record { segment = z.segment; skip = z.skip; small = z.small; modes = y; chroma = c }))))
    (copies_then {see = λ z. z.small} {b = not large} (segment a) (λ g. skip a >>= (λ f. symbol 145 >>= (λ h. done (record { segment = g; skip = f; small = not h })))) k (λ g _.
    copies_then (skip a) (λ f. symbol 145 >>= (λ h. done (record { segment = g; skip = f; small = not h }))) l (λ f _.
    copies_then (symbol 145) (λ h. done (record { segment = g; skip = f; small = not h })) m (λ h e. copies_done (ap not e)))))
    (λ z e.
    copies_then (luma z.small top left) (λ y. large_mode_of true >>= (λ c. done (record { segment = z.segment; skip = z.skip; small = z.small; modes = y; chroma = c }))) (subst (λ (b : Bool). Copies same (luma b top left) s v r3 modes w r4) e n) (λ y f.
    copies_then (large_mode_of true) (λ c. done (record { segment = z.segment; skip = z.skip; small = z.small; modes = y; chroma = c })) o (λ c _. copies_done f)))

-- ---- all macroblocks
pub record Marching (a : Announced) (wide blocks : ℕ) (s : List ℕ) (p₀ : Pipe) (room₀ : List ℕ) (p : Pipe) (k : ℕ) (tops : List (List ℕ)) (left room : List ℕ) : Type 0 where
  pub most : k ≤ blocks
  pub long : length room ≡ length room₀
  pub tall : length tops ≡ 1024
  pub rows : (j : ℕ) → Modes (get_or tops j [])
  pub lefts : Modes left
  pub way : (r2 : Reader) (F : Encoder) (old : List ℕ) → Going s tt r2 F old (modes_from a wide blocks 0 no_tops (replicate 4 0)) p₀ room₀ → Going s tt r2 F old (modes_from a wide (blocks - k) k tops left) p room

pub march_asks : (a : Announced) (wide n k : ℕ) (tops : List (List ℕ)) (left : List ℕ)
    → modes_from a wide (suc n) k tops left ≡ (modes_of a (get_or tops (k % wide) []) (left_of (k % wide) left) >>= (λ m. modes_from a wide n (k + 1) (set tops (k % wide) (bottom_of m.modes)) (right_of m.modes)))
unfolding modes_from
march_asks a wide n k tops left = refl

pub march_none : (a : Announced) (wide k : ℕ) (tops : List (List ℕ)) (left : List ℕ) → modes_from a wide 0 k tops left ≡ done tt
unfolding modes_from
march_none a wide k tops left = refl

module _ {a : Announced} {wide blocks : ℕ} {s : List ℕ} {p₀ : Pipe} {room₀ : List ℕ} {p : Pipe} {k : ℕ} {tops : List (List ℕ)} {left room : List ℕ} (w : Marching a wide blocks s p₀ room₀ p k tops left room) where
  pub march_next : k < blocks → {top aside modes below after : List ℕ} {q : Pipe} {new : List ℕ} → top ≡ get_or tops (k % wide) [] → aside ≡ left_of (k % wide) left → Copies luma_of (modes_of a top aside) s p room modes q new → Modes modes → length new ≡ length room
      → below ≡ bottom_of modes → after ≡ right_of modes → {next : List (List ℕ)} → next ≡ set tops (k % wide) below → Marching a wide blocks s p₀ room₀ q (k + 1) next after new
  march_next h {top} {aside} {modes} {below} {after} {q} {new} e f c l o b d {next} x =
      record {
        most = omega arith;
        long = o ∙ w.long;
        tall = ap length x ∙ length-set tops (k % wide) below ∙ w.tall;
        rows = λ j. subst (λ (t : List (List ℕ)). Modes (get_or t j [])) (sym x) (set_keeps Modes tops (k % wide) below [] (subst Modes (sym b) (bottom_modes modes l)) w.rows j);
        lefts = subst Modes (sym d) (right_modes modes l);
        way = λ r2 F old g.
            let n : ℕ = blocks - (k + 1) in
            let y : blocks - k ≡ suc n = omega arith in
            let z = going_call (modes_of a top aside) (λ m. modes_from a wide n (k + 1) (set tops (k % wide) (bottom_of m.modes)) (right_of m.modes))
            (going_as (ap (λ (l : ℕ). modes_from a wide l k tops left) y ∙ march_asks a wide n k tops left ∙ (λ i. modes_of a (sym e i) (sym f i) >>= (λ m. modes_from a wide n (k + 1) (set tops (k % wide) (bottom_of m.modes)) (right_of m.modes)))) (w.way r2 F old g)) c in
            going_as (λ i. modes_from a wide n (k + 1) ((ap (λ (v : List ℕ). set tops (k % wide) (bottom_of v)) (sym z.seen) ∙ ap (set tops (k % wide)) (sym b) ∙ sym x) i) ((ap right_of (sym z.seen) ∙ sym d) i)) z.going;
      }

  pub march_end : blocks ≤ k → Copied (modes_from a wide blocks 0 no_tops (replicate 4 0)) s p₀ room₀ p room
  march_end h x r2 F old g =
      let e : blocks - k ≡ 0 = omega arith in
      going_done (going_as (ap (λ (l : ℕ). modes_from a wide l k tops left) e ∙ march_none a wide k tops left) (w.way r2 F old g)) refl

abbrev zero_modes : Modes (replicate 4 0)
zero_modes = each_fact 10 (replicate 4 0) (lit< tt) refl

pub left_modes : (column : ℕ) (left : List ℕ) → Modes left → Modes (left_of column left)
left_modes zero left l = zero_modes
left_modes (suc column) left l = l

pub march_start : (a : Announced) (wide blocks : ℕ) (s : List ℕ) (p : Pipe) (room : List ℕ) → Marching a wide blocks s p room p 0 no_tops (replicate 4 0) room
march_start a wide blocks s p room = record { most = omega arith; long = refl; tall = length-replicate {A = List ℕ} 1024 (replicate {A = ℕ} 4 0); rows = λ j. flat 1024 j; lefts = zero_modes; way = λ r2 F old g. going_as (ap (λ (l : ℕ). modes_from a wide l 0 no_tops (replicate 4 0)) {x = blocks} {y = blocks - 0} (omega arith)) g }
  where
    flat : (n j : ℕ) → Modes (get_or (replicate n (replicate 4 0)) j [])
    flat zero j i = lit< tt
    flat (suc n) zero i = zero_modes i
    flat (suc n) (suc j) i = flat n j i

-- right of the first column it is what was left
pub left_on : (column : ℕ) (left : List ℕ) → (column ≡ 0 → ⊥) → left ≡ left_of column left
left_on zero left e = absurd (e refl)
left_on (suc c) left e = refl
