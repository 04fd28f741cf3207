-- Code over a wide reader, one question of its grammar after another: what its contract says (`Reads`), and the steps of its proof (`Going`).
use Rattle.std.specs.Prelude.{◌+◌, ◌-◌, ◌*◌, ◌^◌, ◌≤◌, ◌<◌, ◌≡◌}
use Rattle.numbers.specs.Words.{ℕ, suc, arith, pow-add, pow_mono, refl, sym, ◌∙◌, ap, Bool, true, false, ⊎_elim, lt_or, le-leb, lt-leb, bit_small, List, length, get_or, drop, ℤ}
use Rattle.reader.specs.declared.trees.Branch.TheVariants as B
use Rattle.reader.specs.declared.boolean.Reader.{Reader}
use Rattle.reader.specs.Reading.{given, Reading, done, ask, ◌>>=◌, run, Within}
use Rattle.reader.specs.ReadingLaws.{Bytes, Valid}
use Rattle.numbers.specs.Flags as flags
use Rattle.reader.specs.Counts.{Costs}
use Rattle.reader.specs.Extra.{extra_from, extra}
use Rattle.reader.specs.ExtraLaws.{extra_asks, extra_ends}
use Rattle.reader.specs.Trees.{branch_at_of, step, follow, walk}
use Rattle.wide.specs.Counted.{counted}
use Rattle.wide.specs.CountedLaws.{Ran, counted_run, counted_then, counted_next, counted_costs}
use Rattle.wide.specs.Padded.{padded_bit, padded_next, run_padded}
use Rattle.wide.specs.PaddedLaws.{padded_then, padded_inside, fresh_next, fresh_run}
use Rattle.wide.specs.Wide.{Wide, Bit, fill_of, wide_bit_of, half_of, widen_of, eight_inside, narrow_of}
use Rattle.wide.specs.WideLaws.{Sim, half_is, sim_widen, sim_fill, sim_bit, sim_inside, sim_narrow}

-- what a reader that w stands for ends with: the grammar's value, and q stands for the reader after it, at most at `lim`
pub record Gave {A : Type 0} (s : List ℕ) (E : A × Reader) (lim : ℕ) (a : A) (q : Wide) : Type 0 where
  pub value : a ≡ E.0
  pub sim : Sim s q E.1
  pub near : q.at ≤ lim

-- a contract: with k bits loaded, and n bytes' way before places wrap, the code gives what the grammar gives over padded bytes
abbrev pub WideReads : {A : Type 0} → List ℕ → ℕ → ℕ → Reading A → Wide → A → Wide → Type 0
WideReads s k n g w a q = (r : Reader) → Sim s w r → k ≤ w.count → w.at + n < 2 ^ 64 → Gave s (run_padded g s r) (w.at + n) a q

-- ---- a way through the code, towards E: w stands for a reader from which g gives E, k bits are loaded, and n bytes' way is left
pub record Going {A : Type 0} (s : List ℕ) (E : A × Reader) (lim k n : ℕ) (g : Reading A) (w : Wide) : Type 0 where
  pub r : Reader
  pub sim : Sim s w r
  pub same : run_padded g s r ≡ E
  pub loaded : k ≤ w.count
  pub near : w.at + n ≤ lim
  pub fits : lim < 2 ^ 64

pub going_start : {A : Type 0} {s : List ℕ} {k n : ℕ} {w : Wide} (g : Reading A) (r : Reader) → Sim s w r → k ≤ w.count → w.at + n < 2 ^ 64 → Going s (run_padded g s r) (w.at + n) k n g w
going_start g r m l f = record { r = r; sim = m; same = refl; loaded = l; near = omega arith; fits = f }

module _ {A : Type 0} {s : List ℕ} {E : A × Reader} {lim : ℕ} where
  pub going_fill : (n : ℕ) {k : ℕ} {g : Reading A} {w q : Wide} → Going s E lim k (n + 4) g w → q ≡ fill_of s w → Going s E lim 32 n g q
  going_fill n {w} c e =
      let f = sim_fill s w c.r (omega (arith, c.near, c.fits)) c.sim in
      rw e (record { r = c.r; sim = f.sim; same = c.same; loaded = f.enough; near = omega (arith, f.near, c.near); fits = c.fits })

  pub going_bit : (k : ℕ) {n p : ℕ} {f : Bool → Reading A} {w : Wide} {q : Bit} {b : Bool} → Bytes s → p < 256 → Going s E lim (suc k + 7) n (ask p f) w → q ≡ wide_bit_of w p → q.on ≡ b → Going s E lim (suc k) n (f b) q.next
  unfolding run_padded
  going_bit k {n} {p} {f} {w} {q} {b} y h c e i =
      let m = sim_bit s w c.r p y h (omega (arith, c.loaded)) c.sim in
      let o : padded_bit c.r p ≡ b = sym m.on ∙ ap (λ (z : Bit). z.on) (sym e) ∙ i in
      let t = m.next in
      record {
        r = padded_next s c.r p;
        sim = rw e t.sim;
        same = ap (λ (z : Bool). run_padded (f z) s (padded_next s c.r p)) (sym o) ∙ c.same;
        loaded = rw e (omega (arith, t.few, c.loaded));
        near = rw e (omega (arith, t.still, c.near));
        fits = c.fits;
      }

  pub going_done : {k n : ℕ} {a x : A} {w : Wide} → Going s E lim k n (done a) w → x ≡ a → Gave s E lim x w
  unfolding run_padded
  going_done {a} c e =
      record { value = e ∙ ap (λ (z : A × Reader). z.0) c.same; sim = rw (ap (λ (z : A × Reader). z.1) c.same) at c.sim; near = omega (arith, c.near) }

  -- a call that ends the way
  pub going_last : {k n i j : ℕ} {a : A} {g : Reading A} {w q : Wide} → Going s E lim k n g w → WideReads s j i g w a q → j ≤ k → i ≤ n → Gave s E lim a q
  going_last c h l m =
      let v = h c.r c.sim (omega (arith, c.loaded)) (omega (arith, c.near, c.fits)) in
      record { value = v.value ∙ ap (λ (z : A × Reader). z.0) c.same; sim = rw (ap (λ (z : A × Reader). z.1) c.same) at v.sim; near = omega (arith, v.near, c.near) }

  -- a call on the way, which leaves n bytes' way
  pub going_call : {D : Type 0} (n i : ℕ) {k m j : ℕ} {d : D} (g : Reading D) (f : D → Reading A) {w q : Wide} → Going s E lim k m (g >>= f) w → WideReads s j i g w d q → j ≤ k → n + i ≤ m → Going s E lim 0 n (f d) q
  going_call {D} n i {d} g f {w} {q} c h l o =
      let v = h c.r c.sim (omega (arith, c.loaded)) (omega (arith, c.near, c.fits)) in
      record {
        r = (run_padded g s c.r).1;
        sim = v.sim;
        same = ap (λ (z : D). run_padded (f z) s (run_padded g s c.r).1) v.value ∙ sym (padded_then g f s c.r) ∙ c.same;
        loaded = omega arith;
        near = omega (arith, v.near, c.near);
        fits = c.fits;
      }

-- the same way, of a grammar that is equal
pub going_as : {A : Type 0} {s : List ℕ} {E : A × Reader} {lim k n : ℕ} {g h : Reading A} {w : Wide} → g ≡ h → Going s E lim k n g w → Going s E lim k n h w
going_as e c = rw e at c

-- with fewer bits and less way
pub going_weaken : {A : Type 0} {s : List ℕ} {E : A × Reader} {lim k n : ℕ} {g : Reading A} {w : Wide} (j m : ℕ) → Going s E lim k n g w → j ≤ k → m ≤ n → Going s E lim j m g w
going_weaken j m c l h = record { r = c.r; sim = c.sim; same = c.same; loaded = omega (arith, c.loaded); near = omega (arith, c.near); fits = c.fits }

-- ---- after a symbol a reader's range is below 255, and stays so: then `half` reads at probability 128
pub going_fresh : {A : Type 0} {s : List ℕ} {E : A × Reader} {lim n : ℕ} {g : Reading A} {w : Wide} {q : Bit} {p : ℕ} (k : ℕ) → Bytes s → p < 256 → Going s E lim (suc k + 7) n g w → q ≡ wide_bit_of w p → q.next.top < 254
going_fresh {s} {w} {p} k y h c e =
    let m = sim_bit s w c.r p y h (omega (arith, c.loaded)) c.sim in
    let i = c.sim in
    let f = fresh_next s c.r p h (omega (arith, i.least)) i.most in
    let j = m.next.sim in
    rw e (omega (arith, j.range, f.high))

pub call_fresh : {A D : Type 0} {P : D → Type 0} {s : List ℕ} {E : A × Reader} {lim k m j i n : ℕ} {g : Reading A} {h : Reading D} {a : D} {w q : Wide} → Going s E lim k m g w → w.top < 254 → Within P n h → WideReads s j i h w a q → j ≤ k → i ≤ m → q.top < 254
call_fresh {s} c t b f l o =
    let v = f c.r c.sim (omega (arith, c.loaded)) (omega (arith, c.near, c.fits)) in
    let i = c.sim in
    let z = v.sim in
    let x = fresh_run s c.r b (record { low = omega (arith, i.least); high = omega (arith, i.range) }) in
    omega (arith, z.range, x.high)

pub fill_fresh : (s : List ℕ) (w : Wide) → (fill_of s w).top ≡ w.top
unfolding fill_of
fill_fresh s w =
    ⊎_elim
    (λ (h : w.count < 32). rw (lt-leb 32 w.count h, fill_of) refl)
    (λ (h : 32 ≤ w.count). rw (le-leb 32 w.count h, fill_of) refl)
    (lt_or w.count 32)

pub going_half : {A : Type 0} {s : List ℕ} {E : A × Reader} {lim k n : ℕ} {g : Reading A} {w : Wide} → Going s E lim k n g w → w.top < 254 → half_of w ≡ wide_bit_of w 128
going_half {w} c h = let i = c.sim in half_is w (omega (arith, i.range, i.least)) h

-- ---- a way that counts: a callee whose value tells its cost, a callee that counts, or counts on, the end
module _ {A : Type 0} {s : List ℕ} {E : (A × ℕ) × Reader} {lim : ℕ} where
  pub going_cost : {D : Type 0} (n i c : ℕ) {cost : D → ℕ} {k m j : ℕ} {d : D} (g : Reading D) (f : D → Reading A) {w q : Wide} → Costs cost 0 g → Going s E lim k m (counted c (g >>= f)) w → WideReads s j i g w d q → j ≤ k → n + i ≤ m → Going s E lim 0 n (counted (c + cost d) (f d)) q
  going_cost n i c {cost} g f h a = going_call n i g (λ d. counted (c + cost d) (f d)) (going_as (counted_costs f c h) a)

  pub going_counted : {D : Type 0} (n i c : ℕ) {k m j e : ℕ} {d : D} (g : Reading D) (f : D → Reading A) {w q : Wide} → Going s E lim k m (counted c (g >>= f)) w → WideReads s j i (counted 0 g) w (d, e) q → j ≤ k → n + i ≤ m → Going s E lim 0 n (counted (c + e) (f d)) q
  going_counted n i c g f a = going_call n i (counted 0 g) (λ x. counted (c + x.1) (f x.0)) (going_as (counted_then g f c) a)

  pub going_next : {D : Type 0} (n i c : ℕ) {k m j e : ℕ} {d : D} (g : Reading D) (f : D → Reading A) {w q : Wide} → Going s E lim k m (counted c (g >>= f)) w → WideReads s j i (counted c g) w (d, e) q → j ≤ k → n + i ≤ m → Going s E lim 0 n (counted e (f d)) q
  going_next n i c g f a = going_call n i (counted c g) (λ x. counted x.1 (f x.0)) (going_as (counted_next g f c) a)

  pub going_told : {k n c e : ℕ} {a x : A} {w : Wide} → Going s E lim k n (counted c (done a)) w → x ≡ a → e ≡ c → Gave s E lim (x, e) w
  unfolding counted
  going_told h f g = going_done h (λ i. (f i, g i))

-- ---- contracts, of larger grammars
pub reads_as : {A : Type 0} (s : List ℕ) (k n : ℕ) {g h : Reading A} {w : Wide} {a : A} {q : Wide} → g ≡ h → WideReads s k n g w a q → WideReads s k n h w a q
reads_as s k n e f r m l b = rw (sym e) (f r m l b)

pub reads_done : {A : Type 0} (s : List ℕ) (k n : ℕ) {w : Wide} (a : A) → WideReads s k n (done a) w a w
reads_done s k n a r m l b = going_done (going_start (done a) r m l b) refl

pub reads_then : {D A : Type 0} (s : List ℕ) (k n : ℕ) {w : Wide} {d : D} {q : Wide} (g : Reading D) (f : D → A) → WideReads s k n g w d q → WideReads s k n (g >>= (λ v. done (f v))) w (f d) q
reads_then s k n g f h r m l b = going_done (going_call 0 n g (λ v. done (f v)) (going_start (g >>= (λ v. done (f v))) r m l b) h (omega arith) (omega arith)) refl

-- ---- a walk of a known tree, one node at a time: at most m steps from node i
pub walk_asks : (n : ℕ) (ps : List ℕ) (t : List ℤ) (i : ℕ) → walk (suc n) ps t i ≡ ask (get_or ps i 0) (λ b. follow (walk n ps t) (branch_at_of t i b))
unfolding walk step
walk_asks n ps t i = refl

pub record Walking (s : List ℕ) (E : ℕ × Reader) (lim k n : ℕ) (ps : List ℕ) (t : List ℤ) (m i : ℕ) (w : Wide) : Type 0 where
  pub going : Going s E lim k n (walk m ps t i) w

module _ {s : List ℕ} {E : ℕ × Reader} {lim n : ℕ} {ps : List ℕ} {t : List ℤ} {i p : ℕ} {w : Wide} {q : Bit} {b : Bool} (k m : ℕ) (y : Bytes s) (h : p < 256) (e : get_or ps i 0 ≡ p) (c : Walking s E lim (suc k + 7) n ps t (suc m) i w) (o : q ≡ wide_bit_of w p) (v : q.on ≡ b) where
  stepped : Going s E lim (suc k) n (follow (walk m ps t) (branch_at_of t i b)) q.next
  stepped = going_bit k y h (going_as (walk_asks m ps t i ∙ ap (λ (z : ℕ). ask z (λ b. follow (walk m ps t) (branch_at_of t i b))) e) c.going) o v

  pub walking_node : {j : ℕ} → branch_at_of t i b ≡ B.Node j → Walking s E lim (suc k) n ps t m j q.next
  walking_node f = record { going = going_as (ap (follow (walk m ps t)) f) stepped }

  pub walking_leaf : {x a : ℕ} → branch_at_of t i b ≡ B.Leaf a → x ≡ a → Gave s E lim x q.next
  walking_leaf f g = going_done (going_as (ap (follow (walk m ps t)) f) stepped) g

module _ {s : List ℕ} {ps : List ℕ} {t : List ℤ} where
  pub walking_start : {k n : ℕ} {w : Wide} (m i : ℕ) (r : Reader) → Sim s w r → k ≤ w.count → w.at + n < 2 ^ 64 → Walking s (run_padded (walk m ps t i) s r) (w.at + n) k n ps t m i w
  walking_start m i r v l f = record { going = going_start (walk m ps t i) r v l f }

module _ {s : List ℕ} {E : ℕ × Reader} {lim k : ℕ} {ps : List ℕ} {t : List ℤ} {m i : ℕ} {w q : Wide} where
  pub walking_fill : (n : ℕ) → Walking s E lim k (n + 4) ps t m i w → q ≡ fill_of s w → Walking s E lim 32 n ps t m i q
  walking_fill n c e = record { going = going_fill n c.going e }

  pub walking_last : {n o j a : ℕ} → Walking s E lim k n ps t m i w → WideReads s j o (walk m ps t i) w a q → j ≤ k → o ≤ n → Gave s E lim a q
  walking_last c h l f = going_last c.going h l f

-- a node of two leaves, one after the other
module _ {s : List ℕ} {E : ℕ × Reader} {lim n : ℕ} {ps : List ℕ} {t : List ℤ} {i p : ℕ} {w : Wide} {q : Bit} (k m : ℕ) (y : Bytes s) (h : p < 256) (e : get_or ps i 0 ≡ p) (c : Walking s E lim (suc k + 7) n ps t (suc m) i w) (o : q ≡ wide_bit_of w p) where
  pub walking_two : {x a : ℕ} → branch_at_of t i false ≡ B.Leaf a → branch_at_of t i true ≡ B.Leaf (a + 1) → x ≡ a + flags.bit_of q.on → Gave s E lim x q.next
  walking_two {x} {a} f g u = go q.on refl
    where
      none : a + 0 ≡ a
      none = omega arith

      go : (b : Bool) → q.on ≡ b → Gave s E lim x q.next
      go true z = walking_leaf k m y h e c o z g (u ∙ ap (λ (b : Bool). a + flags.bit_of b) z)
      go false z = walking_leaf k m y h e c o z f (u ∙ ap (λ (b : Bool). a + flags.bit_of b) z ∙ none)

-- ---- a number of several bits, one at a time
-- the loop over its bits: v is what the first i made, each filled for
pub record Taking (s ps : List ℕ) (start : Wide) (v : ℕ) (w : Wide) (i : ℕ) : Type 0 where
  pub passed : i ≤ length ps
  pub small : v < 2 ^ i
  pub going : (r : Reader) → Sim s start r → start.at + 64 < 2 ^ 64 → Going s (run_padded (extra ps) s r) (start.at + 64) 0 (64 - 4 * i) (extra_from v (drop i ps)) w

pub taking_start : (s ps : List ℕ) (w : Wide) → Taking s ps w 0 w 0
taking_start s ps w = record { passed = omega arith; small = omega arith; going = λ r m f. going_start (extra ps) r m (omega arith) f }

pub taking_next : {s ps : List ℕ} {start w f : Wide} {v i x : ℕ} {q : Bit} → Taking s ps start v w i → i < length ps → length ps ≤ 16 → Bytes s → Bytes ps → f ≡ fill_of s w → q ≡ wide_bit_of f (get_or ps i 0) → x ≡ v + v + flags.bit_of q.on → Taking s ps start x q.next (i + 1)
taking_next {s} {ps} {start} {w} {f} {v} {i} {x} {q} t l h y z e o u =
    record {
      passed = omega arith;
      small = rw u (omega (arith, t.small, pow-add 2 i 1, bit_small q.on));
      going =
          λ r m g.
          let a = going_weaken 0 (64 - 4 * (i + 1) + 4) (t.going r m g) (omega arith) (omega arith) in
          let b = going_fill (64 - 4 * (i + 1)) (going_as (extra_asks ps v i l) a) e in
          let c = going_bit 24 y (z i) b o refl in
          going_weaken 0 (64 - 4 * (i + 1)) (going_as (ap (λ (n : ℕ). extra_from n (drop (i + 1) ps)) (sym u)) c) (omega arith) (omega arith);
    }

pub taking_small : {s ps : List ℕ} {start w : Wide} {v i : ℕ} → Taking s ps start v w i → length ps ≤ 16 → v < 65536
taking_small {i} t h = omega (arith, t.small, t.passed, pow_mono {i = i} {j = 16} (omega (arith, t.passed)))

pub taking_bits : {s ps : List ℕ} {start w : Wide} {v i : ℕ} → Taking s ps start v w i → v < 2 ^ length ps
taking_bits {ps} {i} t = omega (arith, t.small, pow_mono {i = i} {j = length ps} t.passed)

pub taking_end : {s ps : List ℕ} {start w : Wide} {v i : ℕ} → Taking s ps start v w i → length ps ≤ i → WideReads s 0 64 (extra ps) start v w
taking_end {ps} {v} {i} t h r m k f = going_done (going_as (extra_ends ps v i h) (t.going r m f)) refl

-- ---- THE LAWS for callers: widen a reader in range, read, look once whether the end was passed, and go back
pub wide_run : {A : Type 0} (s : List ℕ) (r : Reader) (g : Reading A) (n : ℕ) {a : A} {q : Wide} → Bytes s → Valid s r → r.at + n + 4 < 2 ^ 64 → WideReads s 0 n g (widen_of r) a q → eight_inside s q ≡ true → run g s r ≡ given a (narrow_of s q)
unfolding widen_of
wide_run s r g n {a} {q} y v f h e =
    let m = h r (sim_widen s r v) (omega arith) (omega arith) in
    let z : narrow_of s q ≡ (run_padded g s r).1 = sim_narrow s q (run_padded g s r).1 m.sim y (omega (arith, m.near)) in
    padded_inside g s r v.placed (sym (sim_inside s q (run_padded g s r).1 m.sim) ∙ e)
    ∙ (λ i. given (sym m.value i) (sym z i))

-- with the count of M-103
pub wide_counted : {A : Type 0} (s : List ℕ) (r : Reader) (g : Reading A) (n : ℕ) {a : A} {c : ℕ} {q : Wide} → Bytes s → Valid s r → r.at + n + 4 < 2 ^ 64 → WideReads s 0 n (counted 0 g) (widen_of r) (a, c) q → eight_inside s q ≡ true → Ran g s r a c (narrow_of s q)
wide_counted s r g n y v f h e = counted_run g s r (wide_run s r (counted 0 g) n y v f h e)
