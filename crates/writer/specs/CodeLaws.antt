-- Decoder and code: a reader whose window and remaining bytes hold the code of some symbols answers them, and misses none.
use Rattle.std.specs.Prelude.{◌+◌, ◌-◌, ◌*◌, ◌%◌, ◌^◌, ◌≤◌, ◌<◌, ◌≡◌, ◌∷◌}
use Rattle.numbers.specs.Words.{ℕ, zero, suc, add-one, lt_of_mul-lt-mul_right, mod-eq_of_lt, mul_comm, mul-le-mul_right, mul-lt-mul_of_pos_right, mul-one, pow-succ', suc-add, zero-add, arith, pow-add, pow_pos, twice, doubled, cases8, refl, sym, ◌∙◌, ap, subst, Bool, true, false, ⊎_elim, leb, lt_or, eq_or, eq-eqb, le-leb, le-ltb, lt-leb, lt-ltb, List, [], length, get_or, drop, get_or-eq_default, drop_of_length-le, drop-cons}
use Rattle.reader.specs.declared.boolean.Reader.{Reader}
use Rattle.reader.specs.Reading.{given, split_of, chosen_of, shifted, loaded, grow, decided_of, symbol_of, CodedSymbol, Answers, none, more}
use Rattle.reader.specs.ReadingLaws.{Bytes, Valid, grow_shift, grow_load, grow_stop, split_is, decided_inside, decided_edge, symbol_is, symbol_valid, Each, nil, cons, Byte}
use Rattle.writer.specs.Encoder.{offset_of, width_of}
use Rattle.writer.specs.Code.{size, number, part_width, lifts_of, lifted_of, bits_of, code_of}

-- ---- bytes as a number
pub size_pos : (l : List ℕ) → 0 < size l
unfolding size
size_pos [] = omega arith
size_pos (b ∷ l) = omega (arith, size_pos l)

pub number_small : (l : List ℕ) → Bytes l → number l < size l
unfolding size number
number_small [] y = omega arith
number_small (b ∷ l) y = let i = number_small l (λ i. y (suc i)) in omega (arith, mul-le-mul_right {m = b} {n = 255} (size l) (let z = y 0 in omega arith))

drop_bytes : (l : List ℕ) (n : ℕ) → Bytes l → Bytes (drop n l)
drop_bytes [] zero y = y
drop_bytes [] (suc n) y = y
drop_bytes (b ∷ l) zero y = y
drop_bytes (b ∷ l) (suc n) y = drop_bytes l n (λ i. y (suc i))

-- ---- the doublings
module _ (n w : ℕ) where
  pub lifts_more : w < 128 → lifts_of (suc n) w ≡ suc (lifts_of n (w * 2))
  unfolding lifts_of
  lifts_more h = rw (lt-ltb w 128 h, lifts_of)

  pub lifts_none : 128 ≤ w → lifts_of (suc n) w ≡ 0
  unfolding lifts_of
  lifts_none h = rw (le-ltb w 128 h, lifts_of)

  pub lifted_more : w < 128 → lifted_of (suc n) w ≡ lifted_of n (w * 2)
  unfolding lifted_of
  lifted_more h = rw (lt-ltb w 128 h, lifted_of)

  pub lifted_none : 128 ≤ w → lifted_of (suc n) w ≡ w
  unfolding lifted_of
  lifted_none h = rw (le-ltb w 128 h, lifted_of)

pub lifted_is : (n w : ℕ) → lifted_of n w ≡ w * 2 ^ lifts_of n w
unfolding lifts_of lifted_of
lifted_is zero w = sym (mul-one w)
lifted_is (suc n) w =
    ⊎_elim
    (λ h. rw (lifted_more n w h, lifts_more n w h) (lifted_is n (w * 2) ∙ twice w (lifts_of n (w * 2))))
    (λ h. rw (lifted_none n w h, lifts_none n w h) (sym (mul-one w)))
    (lt_or w 128)

pub lifted_range : (n w : ℕ) → 128 ≤ w * 2 ^ n → w < 256 → (128 ≤ lifted_of n w) × (lifted_of n w < 256)
unfolding lifted_of
lifted_range zero w h l = (omega (arith, mul-one w), l)
lifted_range (suc n) w h l =
    ⊎_elim
    (λ g. rw (lifted_more n w g) (lifted_range n (w * 2) (rw twice h) (omega arith)))
    (λ g. rw (lifted_none n w g) (g, l))
    (lt_or w 128)

-- ---- the part that a bit chooses
part_fits : (range x : ℕ) (b : Bool) → 1 ≤ x → x < range → (1 ≤ width_of range x b) × (offset_of x b + width_of range x b ≤ range)
part_fits range x true l h = (omega arith, omega arith)
part_fits range x false l h = (omega arith, omega arith)

pub record Lifted (range : ℕ) (q : CodedSymbol) : Type 0 where
  pub some : 1 ≤ part_width range q
  pub fits : offset_of (split_of range q.prob) q.bit + part_width range q ≤ range
  pub least : 128 ≤ lifted_of 7 (part_width range q)
  pub most : lifted_of 7 (part_width range q) < 256

pub lifted : (range : ℕ) (q : CodedSymbol) → 128 ≤ range → range < 256 → Byte q → Lifted range q
lifted range q lo hi h =
    let i = split_is range q.prob (omega arith) h in
    let p = part_fits range (split_of range q.prob) q.bit i.1 i.2 in
    let w : ℕ = part_width range q in
    let g : w < 256 = omega arith in
    let e : 128 ≤ w * 2 ^ 7 = omega (arith, p.0) in
    let r = lifted_range 7 w e g in
    record { some = p.0; fits = p.1; least = r.0; most = r.1 }

-- ---- the code lies in the range
pub code_small : (qs : List CodedSymbol) (range : ℕ) → 128 ≤ range → range < 256 → Each Byte qs → code_of qs range < range * 2 ^ bits_of qs range
unfolding bits_of code_of
code_small [] range lo hi nil = omega arith
code_small (q ∷ qs) range lo hi (cons h y) =
    let t = lifted range q lo hi h in
    let w : ℕ = part_width range q in
    let k : ℕ = lifts_of 7 w in
    let n : ℕ = bits_of qs (lifted_of 7 w) in
    let i : code_of qs (lifted_of 7 w) < lifted_of 7 w * 2 ^ n = code_small qs (lifted_of 7 w) t.least t.most y in
    let e : lifted_of 7 w * 2 ^ n ≡ w * 2 ^ (k + n) = ap (λ (x : ℕ). x * 2 ^ n) (lifted_is 7 w) ∙ doubled w k n (k + n) refl in
    let o : (offset_of (split_of range q.prob) q.bit + w) * 2 ^ (k + n) ≤ range * 2 ^ (k + n) = mul-le-mul_right (2 ^ (k + n)) t.fits in
    omega (arith, i, e, o)

-- the same of the symbols after one, in the part that it chose
pub rest_small : (q : CodedSymbol) (qs : List CodedSymbol) (range : ℕ) → 128 ≤ range → range < 256 → Byte q → Each Byte qs
    → code_of qs (lifted_of 7 (part_width range q)) < part_width range q * 2 ^ (lifts_of 7 (part_width range q) + bits_of qs (lifted_of 7 (part_width range q)))
rest_small q qs range lo hi h y =
    let t = lifted range q lo hi h in
    let w : ℕ = part_width range q in
    let n : ℕ = bits_of qs (lifted_of 7 w) in
    let i = code_small qs (lifted_of 7 w) t.least t.most y in
    let e : lifted_of 7 w * 2 ^ n ≡ w * 2 ^ (lifts_of 7 w + n) = ap (λ (x : ℕ). x * 2 ^ n) (lifted_is 7 w) ∙ doubled w (lifts_of 7 w) n (lifts_of 7 w + n) refl in
    omega (arith, i, e)

-- ---- what a reader holds: its window with the bytes still to load is code / 2^bits of 256, exactly; and the bits that are still to be
-- passed over leave eight to decide by
pub record Holds (s : List ℕ) (r : Reader) (bits code : ℕ) : Type 0 where
  pub same : (r.window * size (drop r.at s) + 2 ^ r.shifts * number (drop r.at s)) * 2 ^ bits ≡ code * (256 * size (drop r.at s))
  pub room : 8 * r.at + r.shifts + bits ≤ 8 * length s + 8

-- a code in the range keeps the window below 256 * range, so that no doubling loses a bit
window_small : (w M S K T D R : ℕ) → 0 < M → (w * M + S * K) * T ≡ D * (256 * M) → D < R * T → w < 256 * R
window_small w M S K T D R m e h =
    lt_of_mul-lt-mul_right (M * T) (omega (arith, mul-lt-mul_of_pos_right {m = D} {n = R * T} {k = M} h m))

-- ---- a shift passes over one bit
shift_same : (w M S K T X : ℕ) → (w * M + S * K) * (2 * T) ≡ X → (w * 2 * M + 2 * S * K) * T ≡ X
shift_same w M S K T X e = omega arith

load_same : (w M b K T D : ℕ) → (w * (256 * M) + 128 * (b * M + K)) * (2 * T) ≡ D * (256 * (256 * M)) → ((w * 2 + b) * M + 1 * K) * T ≡ D * (256 * M)
load_same w M b K T D e = omega arith

module _ (s : List ℕ) (r : Reader) (n D : ℕ) (h : r.window < 32768) (g : Holds s r (suc n) D) where
  doubled_window : r.window * 2 % 65536 ≡ r.window * 2
  doubled_window = mod-eq_of_lt (omega arith)

  shift_holds : Holds s (shifted r) n D
  shift_holds =
      let p : 2 ^ (r.shifts + 1) ≡ 2 * 2 ^ r.shifts = pow-add 2 r.shifts 1 ∙ omega arith in
      record {
        same = rw (doubled_window, p) (shift_same r.window (size (drop r.at s)) (2 ^ r.shifts) (number (drop r.at s)) (2 ^ n) _ (rw (pow-succ' 2 n) at g.same));
        room = omega (arith, g.room);
      }

  load_holds : r.shifts ≡ 7 → Holds s (loaded (get_or s r.at 0) r) n D
  unfolding size number
  load_holds f =
      let e : (r.window * size (drop r.at s) + 128 * number (drop r.at s)) * (2 * 2 ^ n) ≡ D * (256 * size (drop r.at s)) = rw (f, pow-succ' 2 n) at g.same in
      record { same = rw doubled_window (next e); room = omega (arith, g.room) }
    where
      next : (r.window * size (drop r.at s) + 128 * number (drop r.at s)) * (2 * 2 ^ n) ≡ D * (256 * size (drop r.at s))
          → ((r.window * 2 + get_or s r.at 0) * size (drop (r.at + 1) s) + 1 * number (drop (r.at + 1) s)) * 2 ^ n ≡ D * (256 * size (drop (r.at + 1) s))
      next e =
          ⊎_elim
          (λ (a : r.at < length s).
          let t : drop r.at s ≡ get_or s r.at 0 ∷ drop (r.at + 1) s = drop-cons s r.at 0 a ∙ ap (λ (j : ℕ). get_or s r.at 0 ∷ drop j s) (sym (add-one r.at)) in
          load_same r.window (size (drop (r.at + 1) s)) (get_or s r.at 0) (number (drop (r.at + 1) s)) (2 ^ n) D (rw t at e))
          (λ (a : length s ≤ r.at).
          let t : drop r.at s ≡ [] = drop_of_length-le s a in
          let u : drop (r.at + 1) s ≡ [] = drop_of_length-le s {i = r.at + 1} (omega arith) in
          rw (u, get_or-eq_default s 0 {n = r.at} a) (let d = rw t at e in omega arith))
          (lt_or r.at (length s))

-- all the doublings of a symbol
pub grow_holds : (f : ℕ) (s : List ℕ) (r : Reader) (n D : ℕ) → D < r.range * 2 ^ (lifts_of f r.range + n) → Holds s r (lifts_of f r.range + n) D
    → Holds s (grow f s r) n D × ((grow f s r).range ≡ lifted_of f r.range)
unfolding grow lifts_of lifted_of
grow_holds zero s r n D l h = (rw (zero-add n) at h, refl)
grow_holds (suc f) s r n D l h =
    ⊎_elim
    (λ (b : r.range < 128).
    let e : lifts_of (suc f) r.range + n ≡ suc (lifts_of f (r.range * 2) + n) = ap (λ (k : ℕ). k + n) (lifts_more f r.range b) ∙ suc-add (lifts_of f (r.range * 2)) n in
    let g : Holds s r (suc (lifts_of f (r.range * 2) + n)) D = rw e at h in
    let d : D < r.range * 2 ^ suc (lifts_of f (r.range * 2) + n) = rw e at l in
    let d2 : D < r.range * 2 * 2 ^ (lifts_of f (r.range * 2) + n) = omega (arith, twice r.range (lifts_of f (r.range * 2) + n)) in
    let small : r.window < 32768 = omega (arith, window_small r.window (size (drop r.at s)) (2 ^ r.shifts) (number (drop r.at s)) (2 ^ suc (lifts_of f (r.range * 2) + n)) D r.range (size_pos (drop r.at s)) g.same d) in
    rw (lifted_more f r.range b)
    (⊎_elim
    (λ (q : r.shifts ≡ 7). rw (grow_load f s r b q) (grow_holds f s (loaded (get_or s r.at 0) r) n D d2 (load_holds s r (lifts_of f (r.range * 2) + n) D small g q)))
    (λ (q : r.shifts ≡ 7 → ⊥). rw (grow_shift f s r b q) (grow_holds f s (shifted r) n D d2 (shift_holds s r (lifts_of f (r.range * 2) + n) D small g)))
    (eq_or r.shifts 7)))
    (λ (b : 128 ≤ r.range).
    rw (grow_stop (suc f) s r b, lifted_none f r.range b)
    (rw (ap (λ (k : ℕ). k + n) (lifts_none f r.range b) ∙ zero-add n) at h, refl))
    (lt_or r.range 128)

-- ---- the bit: it is read as it was coded
-- the window is a multiple of 2^shifts, and so is 256 * x: below it is below by that much
below : (w x k : ℕ) → k < 8 → w % 2 ^ k ≡ 0 → w < 256 * x → w + 2 ^ k ≤ 256 * x
below w x k l =
    cases8 (λ n. w % 2 ^ n ≡ 0 → w < 256 * x → w + 2 ^ n ≤ 256 * x)
    (λ e h. omega arith) (λ e h. omega arith) (λ e h. omega arith) (λ e h. omega arith) (λ e h. omega arith) (λ e h. omega arith) (λ e h. omega arith) (λ e h. omega arith)
    k l

-- a code of the upper part: the window reaches the split
reaches : (w M S K T D x : ℕ) → 0 < T → K < M → 0 < S → (w * M + S * K) * T ≡ (x * T + D) * (256 * M) → w + S ≤ 256 * x → ⊥
reaches w M S K T D x t k p e h =
    let a : S * K < S * M = rw (mul_comm S K, mul_comm S M) (mul-lt-mul_of_pos_right {m = K} {n = M} {k = S} k p) in
    let b : (w + S) * M ≤ 256 * x * M = mul-le-mul_right M h in
    let c : w * M + S * K < 256 * x * M = omega arith in
    omega (arith, mul-lt-mul_of_pos_right {m = w * M + S * K} {n = 256 * x * M} {k = T} c t)

taken_off_lem : (v M S K T D x : ℕ) → ((v + 256 * x) * M + S * K) * T ≡ (x * T + D) * (256 * M) → (v * M + S * K) * T ≡ D * (256 * M)
taken_off_lem v M S K T D x e = omega arith

module _ (s : List ℕ) (r : Reader) (x N D : ℕ) (y : Bytes s) (v : Valid s r) where
  bit_one : Holds s r N (x * 2 ^ N + D) → 256 * x ≤ r.window
  bit_one h =
      ⊎_elim
      (λ (l : r.window < 256 * x). absurd (reaches r.window (size (drop r.at s)) (2 ^ r.shifts) (number (drop r.at s)) (2 ^ N) D x (pow_pos N) (number_small (drop r.at s) (drop_bytes s r.at y)) (pow_pos r.shifts) h.same (below r.window x r.shifts v.few v.even l)))
      (λ l. l)
      (lt_or r.window (256 * x))

  bit_none : Holds s r N (0 * 2 ^ N + D) → D < x * 2 ^ N → r.window < 256 * x
  bit_none h l = window_small r.window (size (drop r.at s)) (2 ^ r.shifts) (number (drop r.at s)) (2 ^ N) D x (size_pos (drop r.at s)) (h.same ∙ omega arith) l

  -- the bit is the coded one, and the reader holds what is left of the code in the part that it chose
  pub part_holds : (b : Bool) → Holds s r N (offset_of x b * 2 ^ N + D) → D < width_of r.range x b * 2 ^ N → (b ≡ leb (256 * x) r.window) × Holds s (chosen_of r x b) N D
  part_holds true h l =
      let g = bit_one h in
      let e : r.window ≡ r.window - 256 * x + 256 * x = omega arith in (
        sym (le-leb _ _ g),
        record { same = taken_off_lem (r.window - 256 * x) (size (drop r.at s)) (2 ^ r.shifts) (number (drop r.at s)) (2 ^ N) D x (ap (λ (w : ℕ). (w * size (drop r.at s) + 2 ^ r.shifts * number (drop r.at s)) * 2 ^ N) (sym e) ∙ h.same); room = h.room },
      )
  part_holds false h l = (sym (lt-leb _ _ (bit_none h l)), record { same = h.same ∙ omega arith; room = h.room })

part_range : (r : Reader) (x : ℕ) (b : Bool) → (chosen_of r x b).range ≡ width_of r.range x b
part_range r x true = refl
part_range r x false = refl

-- ---- ONE STEP: a reader that holds the code of symbols gives the first of them, and holds the code of the rest
pub record Stepped (s : List ℕ) (r : Reader) (q : CodedSymbol) (qs : List CodedSymbol) : Type 0 where
  pub next : Reader
  pub got : symbol_of s r q.prob ≡ given q.bit next
  pub valid : Valid s next
  pub holds : Holds s next (bits_of qs next.range) (code_of qs next.range)

-- a code that is not over yet decides its symbol
decided : (s : List ℕ) (r : Reader) → Valid s r → 8 * r.at + r.shifts ≤ 8 * length s + 8 → decided_of s r ≡ true
decided s r v h =
    ⊎_elim
    (λ (l : length s < r.at). sym (decided_edge s r v.placed v.few l) ∙ eq-eqb (r.at - length s + r.shifts) 1 (omega arith))
    (λ (l : r.at ≤ length s). decided_inside s r v.placed v.few l)
    (lt_or (length s) r.at)

pub one_answered : (s : List ℕ) (r : Reader) (q : CodedSymbol) (qs : List CodedSymbol) → Bytes s → Byte q → Each Byte qs → Valid s r
    → Holds s r (bits_of (q ∷ qs) r.range) (code_of (q ∷ qs) r.range) → Stepped s r q qs
unfolding bits_of code_of
one_answered s r q qs y b bs v h =
    let x : ℕ = split_of r.range q.prob in
    let w : ℕ = part_width r.range q in
    let n : ℕ = bits_of qs (lifted_of 7 w) in
    let N : ℕ = lifts_of 7 w + n in
    let D : ℕ = code_of qs (lifted_of 7 w) in
    let l : D < w * 2 ^ N = rest_small q qs r.range v.least v.most b bs in
    let p = part_holds s r x N D y v q.bit h l in
    let o : (chosen_of r x q.bit).range ≡ w = part_range r x q.bit in
    let g : Holds s (grow 7 s (chosen_of r x q.bit)) n D × ((grow 7 s (chosen_of r x q.bit)).range ≡ lifted_of 7 w) =
    rw o at (grow_holds 7 s (chosen_of r x q.bit) n D (rw o l) (rw o p.1)) in
    let e : symbol_of s r q.prob ≡ given q.bit (grow 7 s (chosen_of r x q.bit)) =
    symbol_is s r q.prob x (decided s r v (omega (arith, h.room, v.placed))) refl q.bit p.0 in
    let z : Valid s (grow 7 s (chosen_of r x q.bit)) × (r.at ≤ (grow 7 s (chosen_of r x q.bit)).at) = rw e at (symbol_valid s r q.prob y b v) in
    record { next = grow 7 s (chosen_of r x q.bit); got = e; valid = z.0; holds = subst (λ (t : ℕ). Holds s (grow 7 s (chosen_of r x q.bit)) (bits_of qs t) (code_of qs t)) (sym g.1) g.0 }

-- ---- THE LIST: it answers them all
pub record Decoded (s : List ℕ) (r : Reader) (qs : List CodedSymbol) : Type 0 where
  pub last : Reader
  pub answers : Answers s r qs last
  pub valid : Valid s last

pub decoded : (s : List ℕ) (r : Reader) (qs : List CodedSymbol) → Bytes s → Each Byte qs → Valid s r → Holds s r (bits_of qs r.range) (code_of qs r.range) → Decoded s r qs
decoded s r [] y nil v h = record { last = r; answers = none; valid = v }
decoded s r (q ∷ qs) y (cons b bs) v h =
    let t = one_answered s r q qs y b bs v h in
    let d = decoded s t.next qs y bs t.valid t.holds in
    record { last = d.last; answers = more t.got d.answers; valid = d.valid }
