-- The laws of the writer and its room, as the code makes them.
use Rattle.std.specs.Prelude.{◌+◌, ◌-◌, ◌*◌, ◌/◌, ◌%◌, ◌^◌, ◌≤◌, ◌<◌, ◌≡◌, ◌&&◌, ◌++◌}
use Rattle.numbers.specs.Words.{ℕ, zero, suc, div-add-mod', arith, refl, sym, ◌∙◌, ap, subst, Bool, true, false, ⊎_elim, ltb, leb, eq_or, both_left, both_right, both_true, eq-eqb, le-leb, leb-true, lt-leb, lt-ltb, ltb-true, ne_eqb, List, length, get_or, set, get_or-append, get_or-eq_default, length-set, set-append_left, set_out}
use Rattle.wide.specs.Wide.{less32, doublings_of}
use Rattle.writer.specs.Encoder.{add_one_of, carried}
use Rattle.writer.specs.NumberLaws.{length_add_one}
use Rattle.writer.specs.Room.{Writer, Written, written_of, carried_in, byte_in, split_in, width_in, raised_in, loud_in, shifted_in, write_in, four_in, flush_in, writer_fine, ended_of, flush_answer}
pub use Rattle.writer.specs.Room.{Fine}

-- ---- one turn of the carry
pub add_one_none : (l : List ℕ) → add_one_of 0 l ≡ l
unfolding add_one_of
add_one_none l = refl

add_one_full : (i : ℕ) (l : List ℕ) → get_or l i 0 ≡ 255 → add_one_of i (set l i 0) ≡ add_one_of (suc i) l
unfolding add_one_of
add_one_full i l e = rw (eq-eqb _ _ e, add_one_of)

add_one_here : (i : ℕ) (l : List ℕ) → (get_or l i 0 ≡ 255 → ⊥) → set l i (get_or l i 0 + 1) ≡ add_one_of (suc i) l
unfolding add_one_of
add_one_here i l e = rw (ne_eqb _ _ e, add_one_of)

module _ (i : ℕ) (l : List ℕ) (h : 0 < i) where
  back : suc (i - 1) ≡ i
  back = omega arith

  pub add_one_next : get_or l (i - 1) 0 ≡ 255 → add_one_of (i - 1) (set l (i - 1) 0) ≡ add_one_of i l
  add_one_next e = add_one_full (i - 1) l e ∙ ap (λ (n : ℕ). add_one_of n l) back

  pub add_one_last : (get_or l (i - 1) 0 ≡ 255 → ⊥) → set l (i - 1) (get_or l (i - 1) 0 + 1) ≡ add_one_of i l
  add_one_last e = add_one_here (i - 1) l e ∙ ap (λ (n : ℕ). add_one_of n l) back

-- a carry into a byte that lies past the room is lost
pub add_one_past : (n : ℕ) (l : List ℕ) → length l < n → l ≡ add_one_of n l
add_one_past zero l h = absurd (omega arith)
add_one_past (suc i) l h =
    let z : get_or l i 0 ≡ 0 = get_or-eq_default l 0 {n = i} (omega arith) in
    sym (set_out l i (get_or l i 0 + 1) (omega arith)) ∙ add_one_here i l (λ e. omega (arith, z))

-- a carry changes only what is written
add_one_append : (n : ℕ) (xs ys : List ℕ) → n ≤ length xs → add_one_of n (xs ++ ys) ≡ add_one_of n xs ++ ys
unfolding add_one_of
add_one_append zero xs ys h = refl
add_one_append (suc i) xs ys h =
    let g : get_or (xs ++ ys) i 0 ≡ get_or xs i 0 = get_or-append xs ys 0 i (omega arith) in
    ⊎_elim
    (λ (e : get_or xs i 0 ≡ 255).
    rw (eq-eqb _ _ e, add_one_of, eq-eqb (get_or (xs ++ ys) i 0) 255 (g ∙ e), add_one_of)
    (ap (add_one_of i) (set-append_left xs ys i 0 (omega arith)) ∙ add_one_append i (set xs i 0) ys (rw (length-set xs i 0) (omega arith))))
    (λ (e : get_or xs i 0 ≡ 255 → ⊥).
    rw (ne_eqb _ _ e, add_one_of, ne_eqb (get_or (xs ++ ys) i 0) 255 (λ f. e (sym g ∙ f)), add_one_of, g)
    (set-append_left xs ys i (get_or xs i 0 + 1) (omega arith)))
    (eq_or (get_or xs i 0) 255)

pub carried_append : (b : Bool) (xs ys : List ℕ) → carried_in b (length xs) (xs ++ ys) ≡ carried b xs ++ ys
unfolding carried
carried_append true xs ys = add_one_append (length xs) xs ys (omega arith)
carried_append false xs ys = refl

pub length_carried : (b : Bool) (n : ℕ) (l : List ℕ) → length (carried_in b n l) ≡ length l
length_carried true n l = length_add_one n l
length_carried false n l = refl

pub length_carries : (b : Bool) (l : List ℕ) → length (carried b l) ≡ length l
unfolding carried
length_carries true l = length_add_one (length l) l
length_carries false l = refl

-- ---- a symbol, as the code makes it
pub byte_is : (room : List ℕ) (at due : ℕ) {l k : List ℕ} → l ≡ carried_in (leb 256 due) at room → k ≡ set l at (due % 256 % 256) → k ≡ byte_in room at due
byte_is room at due e f =
    let b : due % 256 % 256 ≡ due % 256 = omega arith in
    f ∙ (λ i. set (e i) at (b i))

-- what is above a power of two, taken off
module _ (n m : ℕ) (h : n < 2 ^ 64) where
  pub above_fits : n / m * m % 2 ^ 64 ≤ n
  above_fits = omega (arith, div-add-mod' n m)

  pub rest_is : n - n / m * m % 2 ^ 64 ≡ n % m
  rest_is = omega (arith, div-add-mod' n m)

module _ (w : Writer) (room : List ℕ) where
  pub loud_is : (range high k : ℕ) {s at rest count : ℕ} {new : List ℕ} → s ≡ (24 + (k - w.count)) % 64 → at ≡ (w.at + 1) % 2 ^ 64 → rest ≡ high % 2 ^ s → count ≡ less32 8 (k - w.count) → new ≡ byte_in room w.at (high / 2 ^ s)
      → written_of (record { at = at; range = range; bottom = rest % 2 ^ 32; count = count }) new ≡ loud_in w room range high k
  unfolding loud_in
  loud_is range high k a b c d e =
      λ i. record {
        writer = record { at = b i; range = range; bottom = (c ∙ ap (λ (x : ℕ). high % 2 ^ x) a) i % 2 ^ 32; count = d i };
        room = (e ∙ ap (λ (x : ℕ). byte_in room w.at (high / 2 ^ x)) a) i;
      }

  module _ (range bottom : ℕ) {k high grown : ℕ} (g : k ≡ doublings_of range) (i : high ≡ bottom * 2 ^ k % 2 ^ 64) (j : grown ≡ range * 2 ^ (k % 32) % 2 ^ 32) where
    pub shifted_loud : w.count ≤ k → {y : Written} → y ≡ loud_in w room grown high k → y ≡ shifted_in w room range bottom
    unfolding shifted_in
    shifted_loud l p =
        let o : loud_in w room (range * 2 ^ (doublings_of range % 32) % 2 ^ 32) (bottom * 2 ^ doublings_of range % 2 ^ 64) (doublings_of range) ≡ shifted_in w room range bottom = rw (le-leb w.count (doublings_of range) (subst (λ (y : ℕ). w.count ≤ y) g l), shifted_in) in
        p ∙ (λ n. loud_in w room (j n) (i n) k) ∙ ap (λ (y : ℕ). loud_in w room (range * 2 ^ (y % 32) % 2 ^ 32) (bottom * 2 ^ y % 2 ^ 64) y) g ∙ o

    pub shifted_quiet : k < w.count → written_of (record { at = w.at; range = grown; bottom = high % 2 ^ 32; count = w.count - k }) room ≡ shifted_in w room range bottom
    unfolding shifted_in
    shifted_quiet l =
        let o : written_of (record { at = w.at; range = range * 2 ^ (doublings_of range % 32) % 2 ^ 32; bottom = bottom * 2 ^ doublings_of range % 2 ^ 64 % 2 ^ 32; count = w.count - doublings_of range }) room ≡ shifted_in w room range bottom =
        rw (lt-leb w.count (doublings_of range) (subst (λ (y : ℕ). y < w.count) g l), shifted_in) in
        (λ n. written_of (record { at = w.at; range = j n; bottom = i n % 2 ^ 32; count = w.count - k }) room)
        ∙ ap (λ (y : ℕ). written_of (record { at = w.at; range = range * 2 ^ (y % 32) % 2 ^ 32; bottom = bottom * 2 ^ y % 2 ^ 64 % 2 ^ 32; count = w.count - y }) room) g ∙ o

  pub write_is : (prob : ℕ) {b v : Bool} {x range bottom : ℕ} {y : Written} → b ≡ v → x ≡ split_in w.range prob → range ≡ width_in w.range x v → bottom ≡ raised_in w.bottom x v → y ≡ shifted_in w room range bottom → y ≡ write_in w room prob b
  unfolding write_in
  write_is prob {b} {v} a e f h p =
      p ∙ (λ n. shifted_in w room (f n) (h n)) ∙ (λ n. shifted_in w room (width_in w.range (e n) (sym a n)) (raised_in w.bottom (e n) (sym a n)))

-- ---- the calls
module _ (w : Writer) where
  pub fine_fact : writer_fine w ≡ true → Fine 128 w × (w.count ≤ 24) × (w.bottom + w.range ≤ 4294967296)
  unfolding writer_fine
  fine_fact e =
      let a = both_left (ltb w.at 9223372036854775808 && leb (w.bottom + w.range) 4294967296) _ e in
      let b = both_right (ltb w.at 9223372036854775808 && leb (w.bottom + w.range) 4294967296) _ e in
      let c = both_left (leb 128 w.range && ltb w.range 256) _ b in
      let d = both_right (leb 128 w.range && ltb w.range 256) _ b in (
        record {
          some = leb-true 1 w.count (both_left _ _ d);
          near = ltb-true w.at 9223372036854775808 (both_left _ _ a);
          least = leb-true 128 w.range (both_left _ _ c);
          most = ltb-true w.range 256 (both_right (leb 128 w.range) _ c);
        },
        leb-true w.count 24 (both_right (leb 1 w.count) _ d),
        leb-true (w.bottom + w.range) 4294967296 (both_right (ltb w.at 9223372036854775808) _ a),
      )

  pub fine_test : Fine 128 w → w.count ≤ 24 → w.bottom + w.range ≤ 4294967296 → writer_fine w ≡ true
  unfolding writer_fine
  fine_test f c b =
      both_true (both_true (lt-ltb _ _ f.near) (le-leb _ _ b)) (both_true (both_true (le-leb _ _ f.least) (lt-ltb _ _ f.most)) (both_true (le-leb _ _ f.some) (le-leb _ _ c)))

  module _ (room : List ℕ) where
    pub flush_bad : writer_fine w ≡ false → ended_of 0 room ≡ flush_answer w room
    unfolding flush_answer
    flush_bad e = rw (e, flush_answer)

    pub flush_good : writer_fine w ≡ true → ended_of (w.at + 4) (flush_in w room) ≡ flush_answer w room
    unfolding flush_answer
    flush_good e = rw (e, flush_answer)

    pub flush_is : {p v : ℕ} {b1 b2 b3 b4 b5 : List ℕ} → p ≡ 2 ^ (32 - w.count) → b1 ≡ carried_in (leb p w.bottom) w.at room → v ≡ w.bottom * 2 ^ w.count % 4294967296
        → b2 ≡ set b1 w.at (v / 16777216 % 256) → b3 ≡ set b2 (w.at + 1) (v / 65536 % 256) → b4 ≡ set b3 (w.at + 2) (v / 256 % 256) → b5 ≡ set b4 (w.at + 3) (v % 256) → b5 ≡ flush_in w room
    unfolding flush_in
    flush_is {p} {v} {b1} h h1 k h2 h3 h4 h5 =
        h5
        ∙ (λ i. set (h4 i) (w.at + 3) (v % 256))
        ∙ (λ i. set (set (h3 i) (w.at + 2) (v / 256 % 256)) (w.at + 3) (v % 256))
        ∙ (λ i. set (set (set (h2 i) (w.at + 1) (v / 65536 % 256)) (w.at + 2) (v / 256 % 256)) (w.at + 3) (v % 256))
        ∙ (λ i. four_in ((h1 ∙ ap (λ (q : ℕ). carried_in (leb q w.bottom) w.at room) h) i) w.at (k i))
