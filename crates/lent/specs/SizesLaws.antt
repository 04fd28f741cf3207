-- What check 4 says: each test and its fact, both ways; filling changes no length; and the sizes in macroblocks.
use Rattle.std.specs.Prelude.{◌*◌, ◌/◌, ◌≡◌, ◌&&◌}
use Rattle.numbers.specs.Words.{ℕ, mul_comm, arith, refl, sym, ◌∙◌, ap, ap₂, Bool, true, false, ⊎_elim, eqb, eq_or, both_left, both_right, both_true, eq-eqb, eqb-true, ne_eqb}
use Rattle.tile.specs.Tile.{sides_of, Sides}
use Rattle.tile.specs.ChecksLaws.{sides_fact, sides_test}
use Rattle.lent.specs.Memory.{Form, packed, old, form_width, Sizes, long_of, luma_fine_of, chroma_fine_of, columns_fine_of, modes_fine_of, strengths_fine_of, sizes_fine_of, Sized}

-- ---- one memory
module _ (w h n : ℕ) {must : ℕ} where
  pub long_fact : long_of w h n must ≡ true → n ≡ must
  unfolding long_of
  long_fact e = eqb-true _ _ (both_right (sides_of w h) _ e)

  pub long_test : Sides w h → n ≡ must → long_of w h n must ≡ true
  unfolding long_of
  long_test s e = both_true (sides_test w h s) (eq-eqb _ _ e)

  -- as the code tries it, which works out what it must be only where the sides are fine
  pub long_same : {m : ℕ} → (Sides w h → m ≡ must) → sides_of w h && eqb n m ≡ long_of w h n must
  unfolding long_of
  long_same {m} f = go (sides_of w h) refl
    where
      go : (b : Bool) → sides_of w h ≡ b → b && eqb n m ≡ b && eqb n must
      go true e = ap (eqb n) (f (sides_fact w h e))
      go false e = refl

-- ---- all six
module _ (form : Form) (w h : ℕ) (z : Sizes) where
  pub sizes_fact : sizes_fine_of form w h z ≡ true → Sized form w h z
  unfolding sizes_fine_of
  sizes_fact e =
      let y : Bool = luma_fine_of w h z.y in
      let u : Bool = chroma_fine_of w h z.u in
      let v : Bool = chroma_fine_of w h z.v in
      let c : Bool = columns_fine_of form w h z.columns in
      let m : Bool = modes_fine_of w h z.modes in
      let s : Bool = strengths_fine_of w h z.strengths in
      let e2 = both_left (y && u && v && c && m) s e in
      let e3 = both_left (y && u && v && c) m e2 in
      let e4 = both_left (y && u && v) c e3 in
      let e5 = both_left (y && u) v e4 in
      record {
        y = long_fact w h _ (both_left y u e5);
        u = long_fact w h _ (both_right y u e5);
        v = long_fact w h _ (both_right (y && u) v e4);
        columns = long_fact w h _ (both_right (y && u && v) c e3);
        modes = long_fact w h _ (both_right (y && u && v && c) m e2);
        strengths = long_fact w h _ (both_right (y && u && v && c && m) s e);
      }

  pub sizes_test : Sides w h → Sized form w h z → sizes_fine_of form w h z ≡ true
  unfolding sizes_fine_of
  sizes_test a s =
      both_true
      (both_true
      (both_true
      (both_true (both_true (long_test w h _ a s.y) (long_test w h _ a s.u)) (long_test w h _ a s.v))
      (long_test w h _ a s.columns))
      (long_test w h _ a s.modes))
      (long_test w h _ a s.strengths)

-- ---- as many columns in either form: check 4 says the same
columns_forms : (w h n : ℕ) {a b : ℕ} → a ≡ form_width packed * n → b ≡ form_width old * n → columns_fine_of packed w h a ≡ columns_fine_of old w h b
unfolding long_of
columns_forms w h n {a} {b} e f = ap (λ (t : Bool). sides_of w h && t) (⊎_elim
    (λ (q : n ≡ w / 16). eq-eqb a (4 * (w / 16)) (omega arith) ∙ sym (eq-eqb b (13 * (w / 16)) (omega arith)))
    (λ q. ne_eqb a (4 * (w / 16)) (λ r. q (omega arith)) ∙ sym (ne_eqb b (13 * (w / 16)) (λ r. q (omega arith))))
    (eq_or n (w / 16)))

module _ (w h n : ℕ) (z s : Sizes) (packed_long : z.columns ≡ form_width packed * n) (old_long : s.columns ≡ form_width old * n)
    (y : z.y ≡ s.y) (u : z.u ≡ s.u) (v : z.v ≡ s.v) (m : z.modes ≡ s.modes) (t : z.strengths ≡ s.strengths) where
  pub sizes_forms : sizes_fine_of packed w h z ≡ sizes_fine_of old w h s
  unfolding sizes_fine_of
  sizes_forms = λ i. luma_fine_of w h (y i) && chroma_fine_of w h (u i) && chroma_fine_of w h (v i) && columns_forms w h n packed_long old_long i && modes_fine_of w h (m i) && strengths_fine_of w h (t i)

-- ---- the planes in macroblocks
module _ {w h : ℕ} (s : Sides w h) where
  pub luma_area : w * h ≡ h / 16 * 16 * (w / 16 * 16)
  luma_area =
      let a : w ≡ w / 16 * 16 = omega (arith, s.width.whole) in
      let b : h ≡ h / 16 * 16 = omega (arith, s.height.whole) in
      ap₂ (λ (x y : ℕ). x * y) a b ∙ mul_comm (w / 16 * 16) (h / 16 * 16)

  pub chroma_area : w / 2 * (h / 2) ≡ h / 16 * 8 * (w / 16 * 8)
  chroma_area =
      let a : w / 2 ≡ w / 16 * 8 = omega (arith, s.width.whole) in
      let b : h / 2 ≡ h / 16 * 8 = omega (arith, s.height.whole) in
      ap₂ (λ (x y : ℕ). x * y) a b ∙ mul_comm (w / 16 * 8) (h / 16 * 8)
