-- The shifts of a symbol all at once. While the count lasts they move `bottom` and nothing else; the one that ends it writes a byte.
use Rattle.std.specs.Prelude.{◌+◌, ◌-◌, ◌*◌, ◌/◌, ◌%◌, ◌^◌, ◌≤◌, ◌<◌, ◌≡◌, ◌≢◌, ◌∷◌, ◌++◌}
use Rattle.numbers.specs.Words.{ℕ, zero, suc, div-add-mod', mul-div-mul_right, mul-le-mul, mul-one, arith, pow_mono, twice, doubled, doubled_less, halved, refl, sym, ◌∙◌, ap, Bool, true, false, ⊎_elim, leb, lt_or, eq_or, eq-eqb, le-ltb, lt-leb, lt-ltb, ne_eqb, []}
use Rattle.reader.specs.Reading.{split_of}
use Rattle.wide.specs.Wide.{less32, doublings_of}
use Rattle.wide.specs.WideLaws.{lifts}
use Rattle.writer.specs.Code.{lifts_of, lifted_of}
use Rattle.writer.specs.CodeLaws.{lifts_more, lifts_none, lifted_is, lifted_range}
use Rattle.writer.specs.Encoder.{Encoder, carried, shift_out, emit, offset_of, width_of}
use Rattle.writer.specs.Room.{split_in, width_in, raised_in}

-- ---- numbers in range do not wrap
pub split_same : (range prob : ℕ) → 128 ≤ range → range < 256 → prob < 256 → split_in range prob ≡ split_of range prob
unfolding split_of
split_same range prob lo hi h =
    let t : less32 range 1 ≡ range - 1 = omega arith in
    let m = mul-le-mul {n₁ = range - 1} {m₁ = prob} {n₂ = 255} {m₂ = 255} (omega arith) (omega arith) in
    let n : (range - 1) * prob % 2 ^ 32 ≡ (range - 1) * prob = omega (arith, m) in
    ap (λ (y : ℕ). 1 + y * prob % 2 ^ 32 / 256) t ∙ ap (λ (y : ℕ). 1 + y / 256) n

pub width_same : (range x : ℕ) (b : Bool) → x < range → range < 256 → width_in range x b ≡ width_of range x b
width_same range x true l h = omega arith
width_same range x false l h = refl

pub raised_same : (bottom x range : ℕ) (b : Bool) → bottom + range ≤ 4294967296 → x < range → raised_in bottom x b ≡ bottom + offset_of x b
raised_same bottom x range true l h = omega arith
raised_same bottom x range false l h = omega arith

-- a remainder of a product by a product
pub scaled_mod : (a b c : ℕ) → 0 < c → a * c % (b * c) ≡ a % b * c
scaled_mod a b c h =
    let f : a / b * (b * c) + a * c % (b * c) ≡ a * c = ap (λ (x : ℕ). x * (b * c) + a * c % (b * c)) (sym (mul-div-mul_right {m = c} a b h)) ∙ div-add-mod' (a * c) (b * c) in
    let g : (a / b * b + a % b) * c ≡ a * c = ap (λ (x : ℕ). x * c) (div-add-mod' a b) in
    omega (arith, f, g)

-- how many doublings: as the encoder counts them, one by one
fewest : (w j k : ℕ) → 128 ≤ w * 2 ^ j → w * 2 ^ k < 256 → k ≤ j
fewest w j k l h =
    ⊎_elim
    (λ (g : j < k). absurd (let m = doubled_less w (suc j) k 256 (omega arith) h in let t = twice w j in omega arith))
    (λ (g : k ≤ j). g)
    (lt_or j k)

pub doublings_same : (w : ℕ) → 1 ≤ w → w < 256 → doublings_of w ≡ lifts_of 7 w
doublings_same w l h =
    let a = lifts w l h in
    let r = lifted_range 7 w (omega arith) h in
    let e : lifted_of 7 w ≡ w * 2 ^ lifts_of 7 w = lifted_is 7 w in
    let b : 128 ≤ w * 2 ^ lifts_of 7 w = omega (arith, r.0) in
    let c : w * 2 ^ lifts_of 7 w < 256 = omega (arith, r.1) in
    omega (arith, fewest w (lifts_of 7 w) (doublings_of w) b a.most, fewest w (doublings_of w) (lifts_of 7 w) a.least c)

-- ---- n shifts
unfoldable pub shifts : ℕ → Encoder → Encoder
shifts zero e = e
shifts (suc n) e = shifts n (shift_out e)

shifts_more : (a b c : ℕ) (e : Encoder) → a + b ≡ c → shifts c e ≡ shifts b (shifts a e)
unfolding shifts
shifts_more zero b c e h = ap (λ (n : ℕ). shifts n e) {x = c} {y = b} (omega arith)
shifts_more (suc a) b zero e h = absurd (omega arith)
shifts_more (suc a) b (suc c) e h = shifts_more a b c (shift_out e) (omega arith)

module _ (e : Encoder) where
  shift_range : (shift_out e).range ≡ e.range * 2
  unfolding shift_out
  shift_range =
      ⊎_elim
      (λ (f : e.count ≡ 1). rw (eq-eqb _ _ f, shift_out))
      (λ (f : e.count ≡ 1 → ⊥). rw (ne_eqb _ _ f, shift_out))
      (eq_or e.count 1)

  shift_quiet : (e.count ≢ 1) → e.bottom < 2147483648 → shift_out e ≡ record { out = e.out; range = e.range * 2; bottom = e.bottom * 2; count = e.count - 1 }
  unfolding shift_out carried
  shift_quiet f h =
      let d : e.bottom * 2 % 4294967296 ≡ e.bottom * 2 = omega arith in
      rw (ne_eqb _ _ f, shift_out, d, lt-leb 2147483648 e.bottom h)

  shift_loud : e.count ≡ 1
      → shift_out e ≡ record { out = carried (leb 2147483648 e.bottom) e.out ++ (e.bottom * 2 % 4294967296 / 16777216 ∷ []); range = e.range * 2; bottom = e.bottom * 2 % 4294967296 % 16777216; count = 8 }
  unfolding shift_out
  shift_loud f = rw (eq-eqb _ _ f, shift_out)

pub emit_shifts : (n : ℕ) (e : Encoder) → emit n e ≡ shifts (lifts_of n e.range) e
unfolding emit lifts_of shifts
emit_shifts zero e = refl
emit_shifts (suc n) e =
    ⊎_elim
    (λ (h : e.range < 128).
    let a : emit (suc n) e ≡ emit n (shift_out e) = rw (lt-ltb e.range 128 h, emit) in
    a ∙ emit_shifts n (shift_out e) ∙ ap (λ (x : ℕ). shifts (lifts_of n x) (shift_out e)) (shift_range e) ∙ ap (λ (k : ℕ). shifts k e) (sym (lifts_more n e.range h)))
    (λ (h : 128 ≤ e.range).
    let a : emit (suc n) e ≡ e = rw (le-ltb e.range 128 h, emit) in
    a ∙ ap (λ (k : ℕ). shifts k e) (sym (lifts_none n e.range h)))
    (lt_or e.range 128)

-- while the count lasts
pub quiet : (n : ℕ) (e : Encoder) → n < e.count → e.bottom * 2 ^ n < 4294967296 → shifts n e ≡ record { out = e.out; range = e.range * 2 ^ n; bottom = e.bottom * 2 ^ n; count = e.count - n }
unfolding shifts
quiet zero e h l =
    let c : e.count ≡ e.count - 0 = omega arith in
    λ i. record { out = e.out; range = sym (mul-one e.range) i; bottom = sym (mul-one e.bottom) i; count = c i }
quiet (suc n) e h l =
    let b : e.bottom < 2147483648 = halved e.bottom n 2147483648 l in
    let c : e.count - 1 - n ≡ e.count - suc n = omega arith in
    ap (shifts n) (shift_quiet e (λ f. omega arith) b)
    ∙ quiet n (record { out = e.out; range = e.range * 2; bottom = e.bottom * 2; count = e.count - 1 }) (omega arith) (omega (arith, twice e.bottom n))
    ∙ (λ i. record { out = e.out; range = twice e.range n i; bottom = twice e.bottom n i; count = c i })

-- where it ends: with the bottom b just before the byte
abbrev pub loudly : Encoder → (k b : ℕ) → Encoder
loudly e k b = record {
  out = carried (leb 2147483648 b) e.out ++ (b * 2 % 4294967296 / 16777216 ∷ []);
  range = e.range * 2 ^ k;
  bottom = b * 2 % 4294967296 % 16777216 * 2 ^ (k - e.count);
  count = 8 - (k - e.count);
}

pub loud : (k : ℕ) (e : Encoder) → 1 ≤ e.count → e.count ≤ k → k < 8 → e.bottom * 2 ^ (e.count - 1) < 4294967296 → shifts k e ≡ loudly e k (e.bottom * 2 ^ (e.count - 1))
unfolding shifts
loud k e s h l m =
    let n : ℕ = e.count - 1 in
    let j : ℕ = k - e.count in
    let b : ℕ = e.bottom * 2 ^ n in
    let c : e.count - n ≡ 1 = omega arith in
    let E : Encoder = record { out = e.out; range = e.range * 2 ^ n; bottom = b; count = e.count - n } in
    let G : Encoder = record { out = carried (leb 2147483648 b) e.out ++ (b * 2 % 4294967296 / 16777216 ∷ []); range = e.range * 2 ^ n * 2; bottom = b * 2 % 4294967296 % 16777216; count = 8 } in
    let p = mul-le-mul {n₁ = b * 2 % 4294967296 % 16777216} {m₁ = 2 ^ j} {n₂ = 16777215} {m₂ = 128} (omega arith) (small j (omega arith)) in
    let r : e.range * 2 ^ n * 2 * 2 ^ j ≡ e.range * 2 ^ k = twice (e.range * 2 ^ n) j ∙ doubled e.range n (suc j) k (omega arith) in
    shifts_more n (suc j) k e (omega arith)
    ∙ ap (shifts (suc j)) (quiet n e (omega arith) m)
    ∙ ap (shifts j) (shift_loud E c)
    ∙ quiet j G (omega arith) (omega (arith, p))
    ∙ (λ i. record { out = G.out; range = r i; bottom = G.bottom * 2 ^ j; count = 8 - j })
  where
    small : (j : ℕ) → j < 8 → 2 ^ j ≤ 128
    small j h = pow_mono {i = j} {j = 7} (omega arith)
