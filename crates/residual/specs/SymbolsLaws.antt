-- The laws of a symbol by table: the table's entries, and the range of the readers after it.
use Rattle.std.specs.Prelude.{◌+◌, ◌-◌, ◌*◌, ◌/◌, ◌%◌, ◌^◌, ◌≤◌, ◌<◌, ◌≡◌}
use Rattle.numbers.specs.Words.{ℕ, mul-le-mul, arith, refl, ◌∙◌, ap, Bool, true, false, le-ltb, lt-ltb, List, get_or, get_or_build}
use Rattle.reader.specs.ReadingLaws.{Valid}
use Rattle.reader.specs.declared.boolean.Reader.{Reader}
use Rattle.wide.specs.declared.wide.Wide.{Wide}
use Rattle.wide.specs.Wide.{less32, low_of, doublings_of, lifted_of, fill_of, odd_of, half_of, widen_of, upper_of}
use Rattle.wide.specs.WideLaws.{lifts}
use Rattle.wide.specs.WideRuns.{fill_fresh}
use Rattle.residual.specs.Symbols.{norms_of, Ranged}

-- ---- the table
module _ {l : List ℕ} {range : ℕ} (n : l ≡ norms_of) (h : 1 ≤ range) (k : range < 256) where
  norm_is : get_or l (range - 1) 0 ≡ doublings_of range
  unfolding norms_of
  norm_is =
      let e : range - 1 + 1 ≡ range = omega arith in
      ap (λ (x : List ℕ). get_or x (range - 1) 0) n ∙ get_or_build 510 _ (range - 1) 0 (omega arith) ∙ rw (lt-ltb (range - 1) 255 (omega arith), e) refl

  norm_top : get_or l (254 + range) 0 ≡ range * 2 ^ doublings_of range - 1
  unfolding norms_of
  norm_top =
      let e : 254 + range - 254 ≡ range = omega arith in
      ap (λ (x : List ℕ). get_or x (254 + range) 0) n ∙ get_or_build 510 _ (254 + range) 0 (omega arith) ∙ rw (le-ltb (254 + range) 255 (omega arith), e) refl

  pub norm_few : get_or l (range - 1) 0 < 8
  norm_few = omega (arith, norm_is, (lifts range h k).few)

  pub norm_byte : (1 ≤ get_or l (254 + range) 0) × (get_or l (254 + range) 0 < 256)
  norm_byte = let z = lifts range h k in (omega (arith, norm_top, z.least), omega (arith, norm_top, z.most))

  top_is : get_or l (254 + range) 0 ≡ less32 (range * 2 ^ (doublings_of range % 32) % 2 ^ 32) 1
  top_is =
      let z = lifts range h k in
      let j : doublings_of range % 32 ≡ doublings_of range = omega (arith, z.few) in
      rw j (omega (arith, norm_top, z.least, z.most))

  -- a range lifted by it
  pub lifted_is : (w : Wide) (value : ℕ) {count : ℕ} → count ≡ less32 w.count (get_or l (range - 1) 0) → record { at = w.at; value = value * 2 ^ get_or l (range - 1) 0 % 2 ^ 64; top = get_or l (254 + range) 0; count = count } ≡ lifted_of w value range
  lifted_is w value e = (λ i. record { at = w.at; value = value * 2 ^ norm_is i % 2 ^ 64; top = top_is i; count = (e ∙ ap (less32 w.count) norm_is) i })

-- ---- what a symbol takes of the range
module _ (w : Wide) (prob : ℕ) (h : Ranged w) (k : prob < 256) where
  pub low_fits : w.top * prob ≤ 65025
  low_fits = mul-le-mul {n₁ = w.top} {m₁ = prob} {n₂ = 255} {m₂ = 255} (omega (arith, h.most)) (omega arith)

  pub low_is : w.top * prob / 256 ≡ low_of w prob
  low_is = omega (arith, low_fits)

  pub low_below : w.top * prob / 256 < w.top
  low_below = omega (arith, h.least, mul-le-mul {n₁ = w.top} {m₁ = prob} {n₂ = w.top} {m₂ = 255} (omega arith) (omega arith))

-- ---- readers that stay in range
pub ranged_fill : (s : List ℕ) {w q : Wide} → q ≡ fill_of s w → Ranged w → Ranged q
ranged_fill s {w} e h = rw e (record { least = omega (arith, fill_fresh s w, h.least); most = omega (arith, fill_fresh s w, h.most) })

odd_least : (t : ℕ) (b : Bool) → 1 ≤ t → t < 256 → 1 ≤ odd_of t b
odd_least t true l h = omega arith
odd_least t false l h = omega arith

odd_most : (t : ℕ) (b : Bool) → 1 ≤ t → t < 256 → odd_of t b < 256
odd_most t true l h = omega arith
odd_most t false l h = omega arith

pub ranged_half : {w q : Wide} → q ≡ (half_of w).next → Ranged w → Ranged q
unfolding half_of
ranged_half {w} e h = rw e (record { least = odd_least w.top (upper_of w) h.least h.most; most = odd_most w.top (upper_of w) h.least h.most })

pub ranged_widen : {s : List ℕ} {r : Reader} {q : Wide} → q ≡ widen_of r → Valid s r → Ranged q
unfolding widen_of
ranged_widen e v = rw e (record { least = omega (arith, v.least, v.most); most = omega (arith, v.least, v.most) })
