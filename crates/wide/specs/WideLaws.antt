-- The wide reader stands for a reader of sixteen bits over padded bytes: `Sim`, and that each call keeps it.
use Rattle.std.specs.Prelude.{◌+◌, ◌-◌, ◌*◌, ◌/◌, ◌%◌, ◌^◌, ◌≤◌, ◌<◌, ◌≡◌, ◌≢◌}
pub use Rattle.numbers.specs.Words.{byte_bit}
use Rattle.numbers.specs.Words.{ℕ, zero, suc, add-mul-mod_self_right, div-one, le_of_mul-le-mul_right, mod-add-div', mod-eq_of_lt, mod-le, mod-lt, mul-le-mul, mul-le-mul_right, mul-lt-mul_of_pos_right, mul-one, sub-add_cancel, arith, field, high, pow-add, pow_pos, shl-shr, shr-shr, split, bit_xor, xor_block, xor_lt, xor_self, xor_zero_r, count_leading_zeros, leading_le, leading_top, leading_unique, twice, doubled, halved, mod_scale, cases8, refl, sym, ◌∙◌, ap, subst, Bool, true, false, ⊎_elim, ltb, lit<, lt_or, eq_or, le-leb, le-ltb, leb-true, lt-leb, lt-ltb, ltb-true, bit_of, List, length, get_or, bool_byte}
use Rattle.reader.specs.declared.boolean.Reader.{Reader}
use Rattle.reader.specs.Reading.{split_of, chosen_of, shifted, loaded, grow, decided_of}
use Rattle.reader.specs.ReadingLaws.{Bytes, Valid, grow_stop, grow_shift, grow_load, split_is}
use Rattle.wide.specs.Padded.{padded_bit, padded_next}
use Rattle.wide.specs.Wide.{Wide, Bit, four_of, more_of, fill_of, low_of, on_of, range_of, taken_off, lifted_of, wide_bit_of, doublings_of, odd_of, doubled_of, upper_of, half_of, widen_of, eight_inside, back_of, shifts_of, narrow_of, less32, less64}

-- ---- a number and the n bytes from `at` on behind it
unfoldable pub ahead : List ℕ → ℕ → ℕ → ℕ → ℕ
ahead s at x zero = x
ahead s at x (suc n) = ahead s (at + 1) (x * 256 + get_or s at 0) n

byte_more : (a n : ℕ) → a * 256 * 2 ^ (8 * n) ≡ a * 2 ^ (8 * suc n)
byte_more a n = doubled a 8 (8 * n) (8 * suc n) (omega arith)

ahead_add : (s : List ℕ) (n at x a : ℕ) → ahead s at (x + a) n ≡ ahead s at x n + a * 2 ^ (8 * n)
unfolding ahead
ahead_add s zero at x a = omega (arith, mul-one a)
ahead_add s (suc n) at x a =
    let b : ℕ = get_or s at 0 in
    let e : (x + a) * 256 + b ≡ x * 256 + b + a * 256 = omega arith in
    ap (λ (y : ℕ). ahead s (at + 1) y n) e
    ∙ ahead_add s n (at + 1) (x * 256 + b) (a * 256)
    ∙ ap (λ (z : ℕ). ahead s (at + 1) (x * 256 + b) n + z) (byte_more a n)

ahead_high : (s : List ℕ) → Bytes s → (n at x j : ℕ) → ahead s at x n / 2 ^ (8 * n + j) ≡ x / 2 ^ j
unfolding ahead
ahead_high s y zero at x j = let e : 8 * 0 + j ≡ j = omega arith in ap (λ (i : ℕ). x / 2 ^ i) e
ahead_high s y (suc n) at x j =
    let b : ℕ = get_or s at 0 in
    let e : 8 * suc n + j ≡ 8 * n + (8 + j) = omega arith in
    ap (λ (i : ℕ). ahead s (at + 1) (x * 256 + b) n / 2 ^ i) e
    ∙ ahead_high s y n (at + 1) (x * 256 + b) (8 + j)
    ∙ sym (shr-shr (x * 256 + b) 8 j)
    ∙ ap (λ (i : ℕ). i / 2 ^ j) (high x 8 (y at))

-- ---- a window: the bits of a number x, from a place k on in it, that it does not keep in full
-- its top g bits
cut : (g x k j i : ℕ) → k + j ≡ i → x * 2 ^ k % 2 ^ (g + i) / 2 ^ i ≡ x / 2 ^ j % 2 ^ g
cut g x k j i e =
    field (x * 2 ^ k) g i
    ∙ ap (λ (n : ℕ). n % 2 ^ g) (ap (λ (n : ℕ). x * 2 ^ k / 2 ^ n) (sym e) ∙ sym (shr-shr (x * 2 ^ k) k j) ∙ ap (λ (n : ℕ). n / 2 ^ j) (shl-shr x k))

-- what is taken off a window is taken off the number
mod_less : (a d m : ℕ) → 0 < m → d ≤ (a + d) % m → (a + d) % m - d ≡ a % m
mod_less a d m z h =
    let e : a ≡ (a + d) % m - d + (a + d) / m * m = omega (arith, mod-add-div' (a + d) m) in
    sym
    (ap (λ (i : ℕ). i % m) e
    ∙ add-mul-mod_self_right ((a + d) % m - d) ((a + d) / m) m
    ∙ mod-eq_of_lt (omega (arith, mod-lt (a + d) z)))

record TakenAway (y K J d m : ℕ) : Type 0 where
  z : ℕ
  less : y ≡ z + d * J
  window : y * K % m - d * (K * J) ≡ z * K % m

taken : (y K J d m : ℕ) → 0 < K → 0 < m → d * (K * J) ≤ y * K % m → TakenAway y K J d m
taken y K J d m k q h =
    let g : d * J * K ≤ y * K = omega (arith, mod-le (y * K) m) in
    let l : d * J ≤ y = le_of_mul-le-mul_right g k in
    let e : y ≡ y - d * J + d * J = sym (sub-add_cancel l) in
    let z : ℕ = y - d * J in
    let f : y * K ≡ z * K + d * (K * J) = ap (λ (i : ℕ). i * K) e ∙ omega arith in
    record { z = z; less = e; window = ap (λ (i : ℕ). i % m - d * (K * J)) f ∙ mod_less (z * K) (d * (K * J)) m q (rw f at h) }

-- ---- a reader holds a number y of which its window is the last bits, and y with the bytes from its place on is x with those from a on
pub record Tied (s : List ℕ) (r : Reader) (a x : ℕ) : Type 0 where
  pub y : ℕ
  pub few : r.shifts < 8
  pub window : r.window ≡ y * 2 ^ r.shifts % 65536
  pub same : (n m : ℕ) → r.at + n ≡ a + m → ahead s r.at y n ≡ ahead s a x m

window_load : (y b : ℕ) → b < 256 → y * 128 % 65536 * 2 % 65536 + b ≡ (y * 256 + b) % 65536
window_load y b h = omega (arith, mod-add-div' y 256, mod_scale (y * 128) 2 65536)

module _ (s : List ℕ) (a x : ℕ) where
  tied_shift : (r : Reader) → (r.shifts ≢ 7) → Tied s r a x → Tied s (shifted r) a x
  tied_shift r e t =
      record {
        y = t.y;
        few = omega (arith, t.few);
        window = ap (λ (i : ℕ). i * 2 % 65536) t.window ∙ mod_scale (t.y * 2 ^ r.shifts) 2 65536 ∙ ap (λ (i : ℕ). i % 65536) (doubled t.y r.shifts 1 (r.shifts + 1) refl);
        same = t.same;
      }

  tied_load : (r : Reader) → r.shifts ≡ 7 → get_or s r.at 0 < 256 → Tied s r a x → Tied s (loaded (get_or s r.at 0) r) a x
  unfolding ahead
  tied_load r e h t =
      let w : r.window ≡ t.y * 128 % 65536 = rw e at t.window in
      let b : ℕ = get_or s r.at 0 in
      record { y = t.y * 256 + b; few = omega arith; window = ap (λ (i : ℕ). i * 2 % 65536 + b) w ∙ window_load t.y b h ∙ ap (λ (i : ℕ). i % 65536) (sym (mul-one (t.y * 256 + b))); same = λ n m i. t.same (suc n) m (omega arith) }

  grow_tied : Bytes s → (n : ℕ) (r : Reader) → Tied s r a x → Tied s (grow n s r) a x
  unfolding grow
  grow_tied y zero r t = t
  grow_tied y (suc n) r t =
      ⊎_elim
      (λ l. ⊎_elim
      (λ e. rw (grow_load n s r l e) (grow_tied y n (loaded (get_or s r.at 0) r) (tied_load r e (y r.at) t)))
      (λ e. rw (grow_shift n s r l e) (grow_tied y n (shifted r) (tied_shift r e t)))
      (eq_or r.shifts 7))
      (λ g. rw (grow_stop (suc n) s r g) t)
      (lt_or r.range 128)

-- the doubling's place and range
record Grown (k : ℕ) (r q : Reader) : Type 0 where
  place : 8 * q.at + q.shifts ≡ 8 * r.at + r.shifts + k
  range : q.range ≡ r.range * 2 ^ k

grow_place : (k n : ℕ) (s : List ℕ) (r : Reader) → k ≤ n → 128 ≤ r.range * 2 ^ k → r.range * 2 ^ k < 256 → r.shifts < 8 → Grown k r (grow n s r)
grow_place zero n s r l lo hi f = rw (grow_stop n s r (omega (arith, mul-one r.range))) (record { place = omega arith; range = sym (mul-one r.range) })
grow_place (suc k) zero s r l lo hi f = absurd (omega arith)
grow_place (suc k) (suc n) s r l lo hi f =
    let h : r.range < 128 = halved r.range k 128 hi in
    ⊎_elim
    (λ e. rw (grow_load n s r h e)
    (let g = grow_place k n s (loaded (get_or s r.at 0) r) (omega arith) (rw twice lo) (rw twice hi) (omega arith) in record { place = omega (arith, g.place); range = g.range ∙ twice r.range k }))
    (λ e. rw (grow_shift n s r h e)
    (let g = grow_place k n s (shifted r) (omega arith) (rw twice lo) (rw twice hi) (omega arith) in record { place = omega (arith, g.place); range = g.range ∙ twice r.range k }))
    (eq_or r.shifts 7)

-- ---- the relation: the wide reader's value and place, and the reader's, are those of one number with the padded bytes behind it
pub record Sim (s : List ℕ) (w : Wide) (r : Reader) : Type 0 where
  pub x : ℕ
  pub tied : Tied s r w.at x
  pub value : w.value ≡ x * 2 ^ (64 - w.count) % 2 ^ 64
  pub place : 8 * w.at + 16 ≡ 8 * r.at + r.shifts + w.count
  pub room : w.count ≤ 64
  pub range : w.top + 1 ≡ r.range
  pub least : 128 ≤ r.range
  pub most : r.range < 256
  pub placed : 2 ≤ r.at

-- ---- a reader in range, widened
pub sim_widen : (s : List ℕ) (r : Reader) → Valid s r → Sim s (widen_of r) r
unfolding widen_of
sim_widen s r v =
    let q : ℕ = r.window / 2 ^ r.shifts in
    let e : r.window ≡ q * 2 ^ r.shifts = omega (arith, split r.window r.shifts, v.even) in
    let l : q * 2 ^ r.shifts < 65536 = omega (arith, e, v.small) in
    record {
      x = q;
      tied = record { y = q; few = v.few; window = e ∙ sym (mod-eq_of_lt l); same = λ n m i. let j : n ≡ m = omega arith in ap (ahead s r.at q) j };
      value = ap (λ (i : ℕ). i * 2 ^ 48 % 2 ^ 64) e ∙ ap (λ (i : ℕ). i % 2 ^ 64) (doubled q r.shifts 48 (64 - (16 - r.shifts % 8)) (omega (arith, v.few)));
      place = omega (arith, v.few);
      room = omega arith;
      range = omega (arith, v.least, v.most);
      least = v.least;
      most = v.most;
      placed = v.placed;
    }

-- ---- four bytes more
more_value : (v x K F : ℕ) → v ≡ x * (4294967296 * K) % 18446744073709551616 → (v + F * K) % 18446744073709551616 ≡ (x * 4294967296 + F) * K % 18446744073709551616
more_value v x K F e = omega arith

pub record Filled (s : List ℕ) (w q : Wide) (r : Reader) : Type 0 where
  pub sim : Sim s q r
  pub enough : 32 ≤ q.count
  pub near : q.at ≤ w.at + 4

module _ (s : List ℕ) (w : Wide) (r : Reader) (f : w.at + 4 < 2 ^ 64) (m : Sim s w r) where
  more_sim : w.count < 32 → Sim s (more_of s w) r
  unfolding ahead
  more_sim l =
      let x : ℕ = m.x in
      let a : ℕ = w.at in
      let k : 2 ^ (64 - w.count) ≡ 4294967296 * 2 ^ (32 - w.count) = ap (λ (i : ℕ). 2 ^ i) (omega arith) ∙ pow-add 2 32 (32 - w.count) in
      let v : w.value ≡ x * (4294967296 * 2 ^ (32 - w.count)) % 18446744073709551616 = m.value ∙ ap (λ (i : ℕ). x * i % 2 ^ 64) k in
      let e : (a + 4) % 2 ^ 64 ≡ a + 1 + 1 + 1 + 1 = omega arith in
      let e2 : a + 2 ≡ a + 1 + 1 = omega arith in
      let e3 : a + 3 ≡ a + 1 + 1 + 1 = omega arith in
      let g : x * 4294967296 + four_of s a ≡ ahead s a x 4 = omega (arith, ap (λ (i : ℕ). get_or s i 0) e2, ap (λ (i : ℕ). get_or s i 0) e3) in
      record {
        x = ahead s a x 4;
        tied = record { y = m.tied.y; few = m.tied.few; window = m.tied.window; same = λ n j i. m.tied.same n (suc (suc (suc (suc j)))) (omega arith) ∙ ap (λ (z : ℕ). ahead s z (ahead s a x 4) j) (sym e) };
        value = more_value w.value x (2 ^ (32 - w.count)) (four_of s a) v ∙ ap (λ (i : ℕ). i * 2 ^ (32 - w.count) % 2 ^ 64) g ∙ ap (λ (i : ℕ). ahead s a x 4 * 2 ^ i % 2 ^ 64) (omega arith);
        place = omega (arith, m.place, e);
        room = omega arith;
        range = m.range;
        least = m.least;
        most = m.most;
        placed = m.placed;
      }

  pub sim_fill : Filled s w (fill_of s w) r
  unfolding fill_of
  sim_fill =
      ⊎_elim
      (λ l. rw (lt-leb 32 w.count l, fill_of) (record { sim = more_sim l; enough = omega arith; near = omega arith }))
      (λ l. rw (le-leb 32 w.count l, fill_of) (record { sim = m; enough = l; near = omega arith }))
      (lt_or w.count 32)

-- ---- one symbol
-- the eight bits that decide it are the same
module _ (s : List ℕ) (w : Wide) (r : Reader) (b : Bytes s) (m : Sim s w r) (l : 8 ≤ w.count) where
  same_high : r.window / 256 ≡ w.value / 2 ^ 56
  same_high =
      let t = m.tied in
      let i : 8 * w.at + (8 - r.shifts) ≡ 8 * r.at + (w.count - 8) = omega (arith, m.place, t.few) in
      let e : r.at + w.at ≡ w.at + r.at = omega arith in
      ap (λ (n : ℕ). n / 256) t.window
      ∙ cut 8 t.y r.shifts (8 - r.shifts) 8 (omega (arith, t.few))
      ∙ ap (λ (n : ℕ). n % 256)
      (sym (ahead_high s b w.at r.at t.y (8 - r.shifts))
      ∙ ap (λ (n : ℕ). n / 2 ^ (8 * w.at + (8 - r.shifts))) (t.same w.at r.at e)
      ∙ ap (λ (n : ℕ). ahead s w.at m.x r.at / 2 ^ n) i
      ∙ ahead_high s b r.at w.at m.x (w.count - 8))
      ∙ sym (cut 8 m.x (64 - w.count) (w.count - 8) 56 (omega (arith, m.room)))
      ∙ ap (λ (n : ℕ). n / 2 ^ 56) (sym m.value)

-- a value and a reader after the split
record Half (s : List ℕ) (w : Wide) (v : ℕ) (q : Reader) : Type 0 where
  x : ℕ
  tied : Tied s q w.at x
  value : v ≡ x * 2 ^ (64 - w.count) % 2 ^ 64
  place : 8 * w.at + 16 ≡ 8 * q.at + q.shifts + w.count

half_one : (s : List ℕ) (w : Wide) (r : Reader) (d : ℕ) → Sim s w r → 8 ≤ w.count → 256 * d ≤ r.window → d * 2 ^ 56 ≤ w.value → Half s w (w.value - d * 2 ^ 56) (chosen_of r d true)
half_one s w r d m l h1 h2 =
    let t = m.tied in
    let e1 : r.shifts + (8 - r.shifts) ≡ 8 = omega (arith, t.few) in
    let e2 : 64 - w.count + (w.count - 8) ≡ 56 = omega (arith, m.room) in
    let k1 : 2 ^ r.shifts * 2 ^ (8 - r.shifts) ≡ 256 = sym (pow-add 2 r.shifts (8 - r.shifts)) ∙ ap (λ (i : ℕ). 2 ^ i) e1 in
    let k2 : 2 ^ (64 - w.count) * 2 ^ (w.count - 8) ≡ 2 ^ 56 = sym (pow-add 2 (64 - w.count) (w.count - 8)) ∙ ap (λ (i : ℕ). 2 ^ i) e2 in
    let d1 : d * (2 ^ r.shifts * 2 ^ (8 - r.shifts)) ≡ d * 256 = ap (λ (i : ℕ). d * i) k1 in
    let d2 : d * (2 ^ (64 - w.count) * 2 ^ (w.count - 8)) ≡ d * 2 ^ 56 = ap (λ (i : ℕ). d * i) k2 in
    let t1 = taken t.y (2 ^ r.shifts) (2 ^ (8 - r.shifts)) d 65536 (pow_pos r.shifts) (lit< tt) (omega (arith, d1, t.window, h1)) in
    let t2 = taken m.x (2 ^ (64 - w.count)) (2 ^ (w.count - 8)) d (2 ^ 64) (pow_pos (64 - w.count)) (lit< tt) (omega (arith, d2, m.value, h2)) in
    let both : (n i : ℕ) → r.at + n ≡ w.at + i → ahead s r.at t1.z n ≡ ahead s w.at t2.z i =
    (λ n i e.
    let j : 8 - r.shifts + 8 * n ≡ w.count - 8 + 8 * i = omega (arith, m.place, t.few) in
    let g : d * 2 ^ (8 - r.shifts) * 2 ^ (8 * n) ≡ d * 2 ^ (w.count - 8) * 2 ^ (8 * i) = doubled d (8 - r.shifts) (8 * n) _ j ∙ sym (doubled d (w.count - 8) (8 * i) _ refl) in
    omega (arith, g, ahead_add s n r.at t1.z (d * 2 ^ (8 - r.shifts)), ahead_add s i w.at t2.z (d * 2 ^ (w.count - 8)), t.same n i e, ap (λ (z : ℕ). ahead s r.at z n) t1.less, ap (λ (z : ℕ). ahead s w.at z i) t2.less)) in
    record {
      x = t2.z;
      tied = record { y = t1.z; few = t.few; window = omega (arith, d1, t.window, t1.window); same = both };
      value = omega (arith, d2, m.value, t2.window);
      place = m.place;
    }

half_none : (s : List ℕ) (w : Wide) (r : Reader) (d : ℕ) → Sim s w r → Half s w (w.value - 0) (chosen_of r d false)
half_none s w r d m =
    let t = m.tied in
    record { x = m.x; tied = record { y = t.y; few = t.few; window = t.window; same = t.same }; value = omega (arith, m.value); place = m.place }

-- the range's leading zeros lift it to 128 or more
pub record Lifts (a k : ℕ) : Type 0 where
  pub few : k < 8
  pub least : 128 ≤ a * 2 ^ k
  pub most : a * 2 ^ k < 256

by_top : (a z j : ℕ) → z + suc j ≡ 8 → 2 ^ j ≤ a → a < 2 ^ suc j → Lifts a z
by_top a z j e lo hi =
    let p : j + z ≡ 7 = omega arith in
    let q : suc j + z ≡ 8 = omega arith in
    record {
      few = omega arith;
      least = subst (λ (x : ℕ). x ≤ a * 2 ^ z) (sym (pow-add 2 j z) ∙ ap (λ (x : ℕ). 2 ^ x) p) (mul-le-mul_right (2 ^ z) lo);
      most = subst (λ (x : ℕ). a * 2 ^ z < x) (sym (pow-add 2 (suc j) z) ∙ ap (λ (x : ℕ). 2 ^ x) q) (mul-lt-mul_of_pos_right hi (pow_pos z));
    }

-- so many are what the code takes them for
doublings_are : (a z m : ℕ) → z < 8 → z + m ≡ 8 → a < 2 ^ m → 2 ^ m ≤ 2 * a + 1 → z ≡ doublings_of a
unfolding doublings_of
doublings_are a z m f e lo hi =
    let k : 3 * 2 ^ 3 + z ≡ count_leading_zeros 32 a = leading_unique 32 a (3 * 2 ^ 3 + z) m (omega arith) lo hi in
    let e : bit_xor 3 3 * 2 ^ 3 + bit_xor z 0 ≡ z = omega (arith, xor_self 3, xor_zero_r z) in
    sym (xor_block 3 3 3 z 0 f (lit< tt) ∙ e) ∙ ap (λ (n : ℕ). bit_xor n 24) k

pub lifts : (a : ℕ) → 1 ≤ a → a < 256 → Lifts a (doublings_of a)
lifts a l h =
    let t = leading_top 8 a l (omega arith) in
    let e = by_top a (count_leading_zeros 8 a) t.0 t.1 t.2 t.3 in
    subst (Lifts a) (doublings_are a (count_leading_zeros 8 a) (suc t.0) e.few t.1 t.3 (omega (arith, t.2, pow-add 2 1 t.0))) e

-- for every range they are a shift of 64 bits
pub doublings_below : (a : ℕ) → doublings_of a < 64
unfolding doublings_of
doublings_below a = xor_lt 6 (count_leading_zeros 32 a) 24 (omega (arith, leading_le 32 a)) (lit< tt)

pub record Next (s : List ℕ) (w q : Wide) (r : Reader) : Type 0 where
  pub sim : Sim s q r
  pub few : w.count ≤ q.count + 7
  pub still : q.at ≡ w.at

lift_sim : (s : List ℕ) (w : Wide) (v range : ℕ) (q : Reader) → Bytes s → 2 ≤ q.at → 8 ≤ w.count → w.count ≤ 64 → q.range ≡ range → 1 ≤ range → range < 256 → Half s w v q → Next s w (lifted_of w v range) (grow 7 s q)
lift_sim s w v range q b a l c e lo hi h =
    let k : ℕ = doublings_of range in
    let z = lifts range lo hi in
    let j : k % 32 ≡ k = omega (arith, z.few) in
    let t : less32 (range * 2 ^ (k % 32) % 2 ^ 32) 1 + 1 ≡ range * 2 ^ k = rw j (omega (arith, z.least, z.most)) in
    let g = grow_place k 7 s q (omega (arith, z.few)) (rw e z.least) (rw e z.most) h.tied.few in
    let p : (grow 7 s q).range ≡ range * 2 ^ k = g.range ∙ ap (λ (i : ℕ). i * 2 ^ k) e in
    let n : less32 w.count k ≡ w.count - k = omega (arith, z.few) in
    record {
      sim = record {
        x = h.x;
        tied = grow_tied s w.at h.x b 7 q h.tied;
        value = ap (λ (i : ℕ). i * 2 ^ k % 2 ^ 64) h.value ∙ mod_scale (h.x * 2 ^ (64 - w.count)) (2 ^ k) (2 ^ 64) ∙ ap (λ (i : ℕ). i % 2 ^ 64) (doubled h.x (64 - w.count) k (64 - less32 w.count k) (omega (arith, n, z.few)));
        place = omega (arith, n, z.few, g.place, h.place);
        room = omega (arith, n);
        range = t ∙ sym p;
        least = omega (arith, p, z.least);
        most = omega (arith, p, z.most);
        placed = omega (arith, g.place, h.tied.few, a, (grow_tied s w.at h.x b 7 q h.tied).few);
      };
      few = omega (arith, n, z.few);
      still = refl;
    }

-- THE LAW of a symbol
pub record Read (s : List ℕ) (w : Wide) (r : Reader) (p : ℕ) (q : Bit) : Type 0 where
  pub on : q.on ≡ padded_bit r p
  pub next : Next s w q.next (padded_next s r p)

module _ (s : List ℕ) (w : Wide) (r : Reader) (p : ℕ) (b : Bytes s) (h : p < 256) (l : 8 ≤ w.count) (m : Sim s w r) where
  top_is : w.top ≡ r.range - 1
  top_is = omega (arith, m.range)

  low_is : low_of w p + 1 ≡ split_of r.range p
  low_is =
      let i = split_is r.range p (omega (arith, m.least)) h in
      rw top_is (omega (arith, i.0, mul-le-mul {n₁ = r.range - 1} {m₁ = p} {n₂ = 255} {m₂ = 255} (omega (arith, m.most)) (omega arith)))

  at_bit : (c : Bool) → c ≡ on_of w p → c ≡ padded_bit r p → Read s w r p (wide_bit_of w p)
  unfolding wide_bit_of padded_next padded_bit
  at_bit true e f =
      let i = split_is r.range p (omega (arith, m.least)) h in
      let d : ℕ = split_of r.range p in
      let g1 : 256 * d ≤ r.window = leb-true _ _ (sym f) in
      let g2 : low_of w p < w.value / 2 ^ 56 = ltb-true _ _ (sym e) in
      let v : Half s w (w.value - (low_of w p + 1) * 2 ^ 56) (chosen_of r d true) = rw low_is (half_one s w r d m l g1 (omega (arith, g2, low_is))) in
      record {
        on = sym e ∙ f;
        next = rw (sym e, sym f) (lift_sim s w (w.value - (low_of w p + 1) * 2 ^ 56) (w.top - low_of w p) (chosen_of r d true) b m.placed l m.room (omega (arith, low_is, top_is, i.1, i.2)) (omega (arith, low_is, top_is, i.1, i.2)) (omega (arith, m.most, top_is)) v);
      }
  at_bit false e f =
      let i = split_is r.range p (omega (arith, m.least)) h in
      let d : ℕ = split_of r.range p in
      record {
        on = sym e ∙ f;
        next = rw (sym e, sym f) (lift_sim s w (w.value - 0) (low_of w p + 1) (chosen_of r d false) b m.placed l m.room (sym low_is) (omega (arith, low_is, i.1)) (omega (arith, low_is, i.2, m.most)) (half_none s w r d m));
      }

  pub sim_bit : Read s w r p (wide_bit_of w p)
  unfolding padded_bit
  sim_bit =
      let d : ℕ = split_of r.range p in
      ⊎_elim
      (λ g. at_bit true (sym (lt-ltb _ _ g)) (sym (le-leb (256 * d) r.window (omega (arith, g, low_is, same_high s w r b m l)))))
      (λ g. at_bit false (sym (le-ltb _ _ g)) (sym (lt-leb (256 * d) r.window (omega (arith, g, low_is, same_high s w r b m l)))))
      (lt_or (low_of w p) (w.value / 2 ^ 56))

-- ---- back to a reader of sixteen bits
floor_mod : (x k : ℕ) → k < 8 → x % 65536 / 2 ^ k * 2 ^ k ≡ x / 2 ^ k * 2 ^ k % 65536
floor_mod x k l =
    cases8 (λ n. x % 65536 / 2 ^ n * 2 ^ n ≡ x / 2 ^ n * 2 ^ n % 65536)
    (omega arith) (omega arith) (omega arith) (omega arith) (omega arith) (omega arith) (omega arith) (omega arith)
    k l

module _ (s : List ℕ) (w : Wide) (r : Reader) (b : Bytes s) (m : Sim s w r) where
  -- where sixteen bits or more are loaded
  window_is : 16 ≤ w.count → w.value / 2 ^ 48 / 2 ^ r.shifts * 2 ^ r.shifts ≡ r.window
  window_is l =
      let t = m.tied in
      let x : ℕ = m.x / 2 ^ (w.count - 16) in
      let i : 8 * w.at + 0 ≡ 8 * r.at + (w.count - 16 + r.shifts) = omega (arith, m.place) in
      let e : r.at + w.at ≡ w.at + r.at = omega arith in
      let y : t.y ≡ x / 2 ^ r.shifts =
      sym (div-one t.y)
      ∙ sym (ahead_high s b w.at r.at t.y 0)
      ∙ ap (λ (n : ℕ). n / 2 ^ (8 * w.at + 0)) (t.same w.at r.at e)
      ∙ ap (λ (n : ℕ). ahead s w.at m.x r.at / 2 ^ n) i
      ∙ ahead_high s b r.at w.at m.x (w.count - 16 + r.shifts)
      ∙ sym (shr-shr m.x (w.count - 16) r.shifts) in
      ap (λ (n : ℕ). n / 2 ^ 48 / 2 ^ r.shifts * 2 ^ r.shifts) m.value
      ∙ ap (λ (n : ℕ). n / 2 ^ r.shifts * 2 ^ r.shifts) (cut 16 m.x (64 - w.count) (w.count - 16) 48 (omega (arith, m.room)))
      ∙ floor_mod x r.shifts t.few
      ∙ ap (λ (n : ℕ). n * 2 ^ r.shifts % 65536) (sym y)
      ∙ sym t.window

module _ (s : List ℕ) (w : Wide) (r : Reader) (m : Sim s w r) where
  pub sim_near : w.at ≤ r.at + 6
  sim_near = omega (arith, m.place, m.room, m.tied.few)

  shifts_is : shifts_of w.count ≡ r.shifts
  shifts_is = omega (arith, m.place, m.room, m.tied.few)

  pub sim_narrow : Bytes s → w.at + 4 < 2 ^ 64 → narrow_of s w ≡ r
  unfolding narrow_of
  sim_narrow b f =
      let g = sim_fill s w r f m in
      let ea : less64 ((w.at + 2) % 2 ^ 64) (back_of w.count) ≡ r.at = omega (arith, m.place, m.room, m.tied.few, m.placed) in
      let er : w.top % 256 + 1 ≡ r.range = omega (arith, m.range, m.most) in
      let ew : (fill_of s w).value / 2 ^ 48 / 2 ^ shifts_of w.count * 2 ^ shifts_of w.count ≡ r.window = rw shifts_is (window_is s (fill_of s w) r b g.sim (omega (arith, g.enough))) in
      (λ i. record { at = ea i; range = er i; shifts = shifts_is i; window = ew i })

  -- whether the next eight bits lie in s
  pub sim_inside : eight_inside s w ≡ decided_of s r
  unfolding eight_inside decided_of
  sim_inside =
      ⊎_elim
      (λ l. lt-ltb _ _ l ∙ sym (le-leb (8 * (r.at - 2) + r.shifts + 8) (8 * length s) (omega (arith, m.place, m.placed, m.tied.few))))
      (λ l. le-ltb _ _ l ∙ sym (lt-leb (8 * (r.at - 2) + r.shifts + 8) (8 * length s) (omega (arith, m.place, m.placed, m.tied.few))))
      (lt_or w.at (length s + w.count / 8))

-- ---- what the code computes
pub wrapped32 : (r a b : ℕ) → r < 2 ^ 32 → b < 2 ^ 32 → (r + b) % 2 ^ 32 ≡ a → r ≡ less32 a b
wrapped32 r a b h l e = omega arith

pub wrapped64 : (r a b : ℕ) → r < 2 ^ 64 → b < 2 ^ 64 → (r + b) % 2 ^ 64 ≡ a → r ≡ less64 a b
wrapped64 r a b h l e = omega arith

add_mod : (a b : ℕ) → (a + b % 18446744073709551616) % 18446744073709551616 ≡ (a + b) % 18446744073709551616
add_mod a b = omega arith

module _ (s : List ℕ) (w : Wide) where
  pub fill_full : 32 ≤ w.count → w ≡ fill_of s w
  unfolding fill_of
  fill_full l = rw (le-leb 32 w.count l, fill_of)

  pub fill_more : w.count < 32 → {a f v : ℕ} → a ≡ (w.at + 4) % 2 ^ 64 → f ≡ four_of s w.at → v ≡ (w.value + f * 2 ^ (32 - w.count) % 2 ^ 64) % 2 ^ 64 → record { at = a; value = v; top = w.top; count = w.count + 32 } ≡ fill_of s w
  unfolding fill_of
  fill_more l {f} ea ef ev = rw (lt-leb 32 w.count l, fill_of, ea, ev, ← ef) (λ i. record { at = (w.at + 4) % 2 ^ 64; value = add_mod w.value (f * 2 ^ (32 - w.count)) i; top = w.top; count = w.count + 32 })

-- one symbol, from its parts
pub bit_is : (w : Wide) (p : ℕ) (b : Bool) {x h v g : ℕ} {q : Wide} → x ≡ low_of w p → h ≡ w.value / 2 ^ 56 → b ≡ ltb x h → v ≡ w.value - taken_off x b → g ≡ range_of w.top x b → q ≡ lifted_of w v g → record { on = b; next = q } ≡ wide_bit_of w p
unfolding wide_bit_of
bit_is w p b ex eh eb ev eg eq = rw (eq, ev, eg, eb, ex, eh)

pub taken_fits : (x v : ℕ) (b : Bool) → b ≡ ltb x (v / 2 ^ 56) → taken_off x b ≤ v
taken_fits x v true e = let l : x < v / 2 ^ 56 = ltb-true _ _ (sym e) in omega arith
taken_fits x v false e = omega arith

-- a split that is taken off is below 255
pub taken_small : (x v : ℕ) (b : Bool) → b ≡ ltb x (v / 2 ^ 56) → v < 2 ^ 64 → b ≡ true → x < 255
taken_small x v b e h f = let l : x < v / 2 ^ 56 = ltb-true _ _ (sym e ∙ f) in omega arith

-- one symbol at probability 128, from its parts
pub half_from : (w : Wide) (b : Bool) {x h v t : ℕ} {q : Wide} → x ≡ w.top / 2 → h ≡ w.value / 2 ^ 56 → b ≡ ltb x h → v ≡ w.value - taken_off x b → t ≡ odd_of w.top b → q ≡ doubled_of w v t → record { on = b; next = q } ≡ half_of w
unfolding half_of
half_from w b ex eh eb ev et eq = rw (eq, ev, et, eb, ex, eh)

odd_is : (t : ℕ) (b : Bool) → 1 ≤ t → t < 254 → odd_of t b ≡ less32 (range_of t (t / 2) b * 2 ^ 1) 1
odd_is t true l h =
    let a : less32 t 1 ≡ t - 1 = omega arith in
    let c : less32 ((t - t / 2) * 2 ^ 1) 1 ≡ (t - t / 2) * 2 - 1 = omega arith in
    let d : (t - 1) / 2 * 2 + 1 ≡ (t - t / 2) * 2 - 1 = ⊎_elim (λ (e : t % 2 < 1). omega arith) (λ (e : 1 ≤ t % 2). omega arith) (lt_or (t % 2) 1) in
    ap (λ (n : ℕ). n / 2 * 2 + 1) a ∙ d ∙ sym c
odd_is t false l h =
    let a : less32 t 0 ≡ t = omega arith in
    let c : less32 ((t / 2 + 1) * 2 ^ 1) 1 ≡ t / 2 * 2 + 1 = omega arith in
    ap (λ (n : ℕ). n / 2 * 2 + 1) a ∙ sym c

half_range : (t : ℕ) (b : Bool) → 127 ≤ t → t < 254 → (range_of t (t / 2) b < 128) × (128 ≤ 2 * range_of t (t / 2) b + 1)
half_range t true l h = (omega arith, omega arith)
half_range t false l h = (omega arith, omega arith)

half_bit : (w : Wide) (b : Bool) → 127 ≤ w.top → w.top < 254 → doubled_of w (w.value - taken_off (w.top / 2) b) (odd_of w.top b) ≡ lifted_of w (w.value - taken_off (w.top / 2) b) (range_of w.top (w.top / 2) b)
half_bit w b l h =
    let v : ℕ = w.value - taken_off (w.top / 2) b in
    let g : ℕ = range_of w.top (w.top / 2) b in
    let r = half_range w.top b l h in
    let k : 1 ≡ doublings_of g = doublings_are g 1 7 (lit< tt) (omega arith) r.0 r.1 in
    let m : g * 2 ^ 1 ≡ g * 2 ^ (1 % 32) % 2 ^ 32 = omega (arith, r.0) in
    let o : odd_of w.top b ≡ less32 (g * 2 ^ (1 % 32) % 2 ^ 32) 1 = odd_is w.top b (omega arith) h ∙ ap (λ (n : ℕ). less32 n 1) m in
    (λ i. record { at = w.at; value = v * 2 ^ k i % 2 ^ 64; top = (o ∙ ap (λ (j : ℕ). less32 (g * 2 ^ (j % 32) % 2 ^ 32) 1) k) i; count = less32 w.count (k i) })

-- a symbol by its split less one
abbrev at_split : Wide → ℕ → Bit
at_split w x = let b : Bool = ltb x (w.value / 2 ^ 56) in record { on = b; next = lifted_of w (w.value - taken_off x b) (range_of w.top x b) }

-- THE LAW of it: a range of 128 to 254 has a half of seven bits
pub half_is : (w : Wide) → 127 ≤ w.top → w.top < 254 → half_of w ≡ wide_bit_of w 128
unfolding half_of wide_bit_of
half_is w l h = let e : w.top / 2 ≡ low_of w 128 = omega arith in (λ i. record { on = upper_of w; next = half_bit w (upper_of w) l h i }) ∙ ap (at_split w) e
