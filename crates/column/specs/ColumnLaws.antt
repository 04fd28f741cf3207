-- The laws of a packed context: what is packed comes out again, as the code packs and unpacks it.
use Rattle.std.specs.Prelude.{◌+◌, ◌*◌, ◌/◌, ◌%◌, ◌^◌, ◌<◌, ◌≡◌, ◌&&◌, ◌∷◌}
use Rattle.numbers.specs.Words.{ℕ, zero, suc, add-mul-div_right, add-mul-mod_self_right, div-eq_of_lt, mod-eq_of_lt, arith, bit_and, and_block, and_mask, refl, sym, ◌∙◌, ap, ap₂, Bool, true, eqb, lit<, both_left, both_right, eqb-true, List, [], length, get_or, listed, build_listed, built, all_below, all_below_lem}
use Rattle.modes.specs.Modes.{each_below_of, context_fine_of, Shaped}
use Rattle.modes.specs.ModesLaws.{each_fact}
use Rattle.modes.specs.declared.contexts.Context.{Context}
use Rattle.column.specs.Column.{packed_of, digits_of, half_of, packed_bytes, context_unpacked}

-- ---- numbers packed into one come out again
length_digits : (size n v : ℕ) → length (digits_of size n v) ≡ n
unfolding digits_of
length_digits size zero v = refl
length_digits size (suc n) v = ap suc (length_digits size n (v / size))

digits_back : (size : ℕ) (l : List ℕ) → 0 < size → ((j : ℕ) → get_or l j 0 < size) → digits_of size (length l) (packed_of size l) ≡ l
unfolding digits_of packed_of
digits_back size [] z h = refl
digits_back size (x ∷ l) z h =
    let a : (x + packed_of size l * size) % size ≡ x = add-mul-mod_self_right x (packed_of size l) size ∙ mod-eq_of_lt (h 0) in
    let b : (x + packed_of size l * size) / size ≡ packed_of size l = add-mul-div_right x (packed_of size l) z ∙ omega (arith, div-eq_of_lt (h 0)) in
    ap₂ ◌∷◌ a (ap (digits_of size (length l)) b ∙ digits_back size l z (λ j. h (suc j)))

-- its elements one by one
elements : (n : ℕ) (l : List ℕ) → length l ≡ n → listed n (λ i. get_or l i 0) ≡ l
elements n l e = sym (built l n (λ i. get_or l i 0) 0 e (λ i h. refl) ∙ build_listed n (λ i. get_or l i 0))

-- as the code packs them: each widened to x, in range
abbrev pub Widened : (x y : ℕ) → Type 0
Widened x y = (x ≡ y) × (x < 256)

pub packed_four : (l : List ℕ) → length l ≡ 4 → {a b c d : ℕ} → Widened a (get_or l 0 0) → Widened b (get_or l 1 0) → Widened c (get_or l 2 0) → Widened d (get_or l 3 0)
    → (a + (b + (c + d * 16) * 16) * 16 ≡ packed_of 16 l) × (a + (b + (c + d * 16) * 16) * 16 < 2097152)
unfolding packed_of
packed_four l e p q r s =
    let all = ap (packed_of 16) (elements 4 l e) in
    (omega (arith, all, p.0, q.0, r.0, s.0), omega (arith, p.1, q.1, r.1, s.1))

pub packed_nine : (l : List ℕ) → length l ≡ 9 → {a b c d e f g h i : ℕ}
    → Widened a (get_or l 0 0) → Widened b (get_or l 1 0) → Widened c (get_or l 2 0) → Widened d (get_or l 3 0) → Widened e (get_or l 4 0)
    → Widened f (get_or l 5 0) → Widened g (get_or l 6 0) → Widened h (get_or l 7 0) → Widened i (get_or l 8 0)
    → (a + (b + (c + (d + (e + (f + (g + (h + i * 2) * 2) * 2) * 2) * 2) * 2) * 2) * 2 ≡ packed_of 2 l) × (a + (b + (c + (d + (e + (f + (g + (h + i * 2) * 2) * 2) * 2) * 2) * 2) * 2) * 2 < 2097152)
unfolding packed_of
packed_nine l long j k m n o p q r s =
    let all = ap (packed_of 2) (elements 9 l long) in
    (omega (arith, all, j.0, k.0, m.0, n.0, o.0, p.0, q.0, r.0, s.0), omega (arith, j.1, k.1, m.1, n.1, o.1, p.1, q.1, r.1, s.1))

-- a 16-bit number comes out of its two bytes again
half_back : (v : ℕ) → v < 65536 → half_of (v / 256 % 256) (v % 256) ≡ v
half_back v h = omega arith

-- as the code unpacks flags, four at once: a number's bits 0, 8, 16 and 24
mask_step : (x m : ℕ) → bit_and x (m * 2 ^ 8 + 1) ≡ bit_and (x / 256) m * 256 + x % 2
mask_step x m =
    let p : x ≡ x / 256 * 2 ^ 8 + x % 256 = omega arith in
    ap (λ (y : ℕ). bit_and y (m * 2 ^ 8 + 1)) p ∙ and_block 8 (x / 256) m (x % 256) 1 (omega arith) (lit< tt)
    ∙ ap (λ (y : ℕ). bit_and (x / 256) m * 256 + y) (and_mask (x % 256) 1 ∙ omega arith)

abbrev four_bits : ℕ → ℕ
four_bits x = ((x / 256 / 256 / 256 % 2 * 256 + x / 256 / 256 % 2) * 256 + x / 256 % 2) * 256 + x % 2

four_bits_lem : (x : ℕ) → bit_and x 16843009 ≡ four_bits x
four_bits_lem x =
    mask_step x 65793
    ∙ ap (λ (y : ℕ). y * 256 + x % 2)
    (mask_step (x / 256) 257
    ∙ ap (λ (y : ℕ). y * 256 + x / 256 % 2)
    (mask_step (x / 256 / 256) 1 ∙ ap (λ (y : ℕ). y * 256 + x / 256 / 256 % 2) (and_mask (x / 256 / 256 / 256) 1)))

-- those of n times 1 + 2^7 + 2^14 + 2^21 are the bits of n
unfoldable spreads : ℕ → Bool
spreads n =
    let w = four_bits (n * 2113665) in
    eqb (w % 256) (n % 2) && eqb (w / 256 % 256) (n / 2 % 2) && eqb (w / 256 / 256 % 256) (n / 2 / 2 % 2) && eqb (w / 256 / 256 / 256 % 256) (n / 2 / 2 / 2 % 2)

all_spread : all_below 16 spreads ≡ true
unfolding spreads
all_spread = refl

four_equal : (a b c d p q r s : ℕ) → eqb a p && eqb b q && eqb c r && eqb d s ≡ true → a ∷ b ∷ c ∷ d ∷ [] ≡ p ∷ q ∷ r ∷ s ∷ []
four_equal a b c d p q r s t =
    let y = both_left (eqb a p && eqb b q && eqb c r) (eqb d s) t in
    let x = both_left (eqb a p && eqb b q) (eqb c r) y in
    let e : a ≡ p = eqb-true a p (both_left (eqb a p) (eqb b q) x) in
    let f : b ≡ q = eqb-true b q (both_right (eqb a p) (eqb b q) x) in
    let g : c ≡ r = eqb-true c r (both_right (eqb a p && eqb b q) (eqb c r) y) in
    let h : d ≡ s = eqb-true d s (both_right (eqb a p && eqb b q && eqb c r) (eqb d s) t) in
    λ i. e i ∷ f i ∷ g i ∷ h i ∷ []

pub four_flags_lem : (n : ℕ) → n < 16 → {w : ℕ} → w ≡ bit_and (n * 2113665) 16843009 → w % 256 ∷ w / 256 % 256 ∷ w / 256 / 256 % 256 ∷ w / 256 / 256 / 256 % 256 ∷ [] ≡ digits_of 2 4 n
unfolding digits_of spreads
four_flags_lem n h {w} e = rw (e ∙ four_bits_lem (n * 2113665)) (four_equal _ _ _ _ (n % 2) (n / 2 % 2) (n / 2 / 2 % 2) (n / 2 / 2 / 2 % 2) (all_below_lem spreads 16 all_spread n h))

-- the four lowest bits are those of the remainder
bits_low : (v q r : ℕ) → v ≡ q * 16 + r → r < 16 → (digits_of 2 4 r ≡ digits_of 2 4 v) × (v / 2 / 2 / 2 / 2 ≡ q)
unfolding digits_of
bits_low v q r e h =
    let e1 : v / 2 ≡ q * 8 + r / 2 = eighth v q r e in
    let e2 : v / 2 / 2 ≡ q * 4 + r / 2 / 2 = fourth (v / 2) q (r / 2) e1 in
    let e3 : v / 2 / 2 / 2 ≡ q * 2 + r / 2 / 2 / 2 = second (v / 2 / 2) q (r / 2 / 2) e2 in
    let m0 : r % 2 ≡ v % 2 = odd v (q * 8) r (e ∙ omega arith) in
    let m1 : r / 2 % 2 ≡ v / 2 % 2 = odd (v / 2) (q * 4) (r / 2) (e1 ∙ omega arith) in
    let m2 : r / 2 / 2 % 2 ≡ v / 2 / 2 % 2 = odd (v / 2 / 2) (q * 2) (r / 2 / 2) (e2 ∙ omega arith) in
    let m3 : r / 2 / 2 / 2 % 2 ≡ v / 2 / 2 / 2 % 2 = odd (v / 2 / 2 / 2) q (r / 2 / 2 / 2) e3 in
    (λ i. m0 i ∷ m1 i ∷ m2 i ∷ m3 i ∷ [], first (v / 2 / 2 / 2) q (r / 2 / 2 / 2) e3 (omega arith))
  where
    eighth : (v q r : ℕ) → v ≡ q * 16 + r → v / 2 ≡ q * 8 + r / 2
    eighth v q r e = omega arith

    fourth : (v q r : ℕ) → v ≡ q * 8 + r → v / 2 ≡ q * 4 + r / 2
    fourth v q r e = omega arith

    second : (v q r : ℕ) → v ≡ q * 4 + r → v / 2 ≡ q * 2 + r / 2
    second v q r e = omega arith

    first : (v q r : ℕ) → v ≡ q * 2 + r → r < 2 → v / 2 ≡ q
    first v q r e h = omega arith

    odd : (v q r : ℕ) → v ≡ q * 2 + r → r % 2 ≡ v % 2
    odd v q r e = omega arith

-- and all nine
pub nine_flags : (v : ℕ) {a b : List ℕ} → a ≡ digits_of 2 4 (v % 16) → b ≡ digits_of 2 4 (v / 16 % 16)
    → get_or a 0 0 ∷ get_or a 1 0 ∷ get_or a 2 0 ∷ get_or a 3 0 ∷ get_or b 0 0 ∷ get_or b 1 0 ∷ get_or b 2 0 ∷ get_or b 3 0 ∷ v / 256 % 2 ∷ [] ≡ digits_of 2 9 v
unfolding digits_of
nine_flags v {a} {b} e f =
    let low = bits_low v (v / 16) (v % 16) (omega arith) (omega arith) in
    let high = bits_low (v / 16) (v / 16 / 16) (v / 16 % 16) (omega arith) (omega arith) in
    let p : a ≡ digits_of 2 4 v = e ∙ low.0 in
    let q : b ≡ digits_of 2 4 (v / 2 / 2 / 2 / 2) = f ∙ high.0 ∙ ap (digits_of 2 4) (sym low.1) in
    let last : v / 256 ≡ v / 2 / 2 / 2 / 2 / 2 / 2 / 2 / 2 = omega arith ∙ sym high.1 ∙ ap (λ (n : ℕ). n / 2 / 2 / 2 / 2) (sym low.1) in
    λ i. get_or (p i) 0 0 ∷ get_or (p i) 1 0 ∷ get_or (p i) 2 0 ∷ get_or (p i) 3 0 ∷ get_or (q i) 0 0 ∷ get_or (q i) 1 0 ∷ get_or (q i) 2 0 ∷ get_or (q i) 3 0 ∷ last i % 2 ∷ []

-- digits in range leave room: four of four bits fill sixteen, nine of one leave seven of them 0
modes_room : (l : List ℕ) → length l ≡ 4 → ((j : ℕ) → get_or l j 0 < 16) → packed_of 16 l < 65536
modes_room l e h =
    let small : (j : ℕ) → Widened (get_or l j 0) (get_or l j 0) = λ j. (refl, omega (arith, h j)) in
    omega (arith, (packed_four l e (small 0) (small 1) (small 2) (small 3)).0, h 0, h 1, h 2, h 3)

flags_room : (l : List ℕ) → length l ≡ 9 → ((j : ℕ) → get_or l j 0 < 2) → packed_of 2 l < 512
flags_room l e h =
    let small : (j : ℕ) → Widened (get_or l j 0) (get_or l j 0) = λ j. (refl, omega (arith, h j)) in
    omega (arith, (packed_nine l e (small 0) (small 1) (small 2) (small 3) (small 4) (small 5) (small 6) (small 7) (small 8)).0, h 0, h 1, h 2, h 3, h 4, h 5, h 6, h 7, h 8)

-- ---- THE LAWS for callers
pub unpacked_shaped : (b : List ℕ) → Shaped (context_unpacked b)
unpacked_shaped b = record { modes = length_digits 16 4 _; flags = length_digits 2 9 _ }

module _ (c : Context) (z : Shaped c) (e : context_fine_of c ≡ true) where
  mode_below : (j : ℕ) → get_or c.modes j 0 < 16
  mode_below j = omega (arith, each_fact 10 c.modes (lit< tt) (both_left (each_below_of 10 c.modes) (each_below_of 2 c.flags) e) j)

  flag_below : (j : ℕ) → get_or c.flags j 0 < 2
  flag_below j = each_fact 2 c.flags (lit< tt) (both_right (each_below_of 10 c.modes) (each_below_of 2 c.flags) e) j

  pub context_back : context_unpacked (packed_bytes c) ≡ c
  context_back =
      let a : digits_of 16 4 (half_of (packed_of 16 c.modes / 256 % 256) (packed_of 16 c.modes % 256)) ≡ c.modes =
      ap (digits_of 16 4) (half_back (packed_of 16 c.modes) (modes_room c.modes z.modes mode_below))
      ∙ ap (λ (n : ℕ). digits_of 16 n (packed_of 16 c.modes)) (sym z.modes) ∙ digits_back 16 c.modes (lit< tt) mode_below in
      let b : digits_of 2 9 (half_of (packed_of 2 c.flags / 256 % 256) (packed_of 2 c.flags % 256)) ≡ c.flags =
      ap (digits_of 2 9) (half_back (packed_of 2 c.flags) (omega (arith, flags_room c.flags z.flags flag_below)))
      ∙ ap (λ (n : ℕ). digits_of 2 n (packed_of 2 c.flags)) (sym z.flags) ∙ digits_back 2 c.flags (lit< tt) flag_below in
      λ i. record { modes = a i; flags = b i }

  -- the seven bits above the flags are 0
  pub unused_zero : get_or (packed_bytes c) 2 0 < 2
  unused_zero = omega (arith, flags_room c.flags z.flags flag_below)
