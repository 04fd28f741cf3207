-- The words of the source's contracts say what Kernel.antt says.
use Rattle.std.specs.Prelude.{◌+◌, ◌*◌, ◌<◌, ◌≡◌, ◌&&◌, ◌||◌, ◌∷◌, ◌+ℤ◌, ◌-ℤ◌, ◌*ℤ◌, ◌≤ℤ◌}
use Rattle.numbers.specs.Words.{ℕ, suc, zero-add, arith, cases8, refl, sym, ◌∙◌, ap, ap₂, Bool, true, false, not, cond, ltb, T, cond_at, ltb-true, List, [], get_or, ℤ, pos, negsuc, nat_abs, le_z, lt_z, shr_z, le_z_yes, In, ≤ℤ-trans, plainly, inside, E, val, chk, know, ◌⊕◌, ◌⊖◌, ◌⊙◌, lit, v, known, unsigned_below, divided2_source, divided8_source, divided128_source, clamp_z, clip_z, signed_to, signed_byte_z, clamp_tests, signed_in, w32}
use Rattle.filter.specs.Kernel as kernel
use Rattle.filter.specs.Kernel.{Samples, samples_across, across, tapped, eighth, part, half, sides, no_steps, common_steps_of, macroblock_steps_of, inner_steps_of, filter_of}
use Rattle.filter.specs.KernelLaws.{Bytes, clip_still, filter_at, first_past, steps_by_tests, eighth_in}
use Rattle.filter.specs.Source.{absolute, bounded, divided, ok, smooth, hev, simple_sample, edge_sample, inner_sample, sample}

pub absolute_source : (z : ℤ) → absolute z ≡ pos (nat_abs z)
unfolding absolute
absolute_source (pos a) = cond_at (ltb a 0) (λ (x : ℤ). x ≡ pos a) (λ e. absurd (omega (arith, ltb-true a 0 e))) (λ e. refl)
absolute_source (negsuc a) = ap pos (zero-add (suc a))

pub bounded_source : (z lo hi : ℤ) → bounded z lo hi ≡ clamp_z lo hi z
unfolding bounded
bounded_source z lo hi = sym (clamp_tests lo hi z)

-- `divided` by 2, 8 and 128 is the division that rounds down, in the range that the source asks and further
pub divided_source : (z : ℤ) → negsuc 1048575 ≤ℤ z → (divided z 2 ≡ shr_z z 2) × (divided z 8 ≡ shr_z z 8) × (divided z 128 ≡ shr_z z 128)
unfolding divided
divided_source z h = (divided2_source z h, divided8_source z h, divided128_source z h)

-- ---- the tests
pub ok_source : (e : Samples) (limit : ℕ) → ok e limit ≡ kernel.within_limit_of e limit
unfolding ok kernel.within_limit_of
ok_source e limit =
    ap₂ (λ (a b : ℤ). le_z (pos 4 *ℤ a +ℤ b) (pos (2 * limit + 1))) (absolute_source (e.p0 -ℤ e.q0)) (absolute_source (e.p1 -ℤ e.q1))

pub hev_source : (e : Samples) (threshold : ℕ) → hev e threshold ≡ kernel.high_variance_of e threshold
unfolding hev kernel.high_variance_of
hev_source e threshold =
    ap₂ (λ (a b : ℤ). lt_z (pos threshold) a || lt_z (pos threshold) b) (absolute_source (e.p1 -ℤ e.p0)) (absolute_source (e.q1 -ℤ e.q0))

pub smooth_source : (e : Samples) (inner : ℕ) → smooth e inner ≡ not (ltb (kernel.rough_at e inner) 6)
unfolding smooth kernel.smooth kernel.rough_at
smooth_source e inner = simp absolute_source (first_past _ _ _ _ _ _)

-- ---- the numbers that are divided lie far above -1048576
far : {l h z : ℤ} (i : In l h z) (x : E) → T (chk w32 (known (plainly i) ∷ []) x).good → T (le_z (negsuc 1048575) (chk w32 (known (plainly i) ∷ []) x).l) → negsuc 1048575 ≤ℤ val w32 (known (plainly i) ∷ []) x
far i x g t = ≤ℤ-trans (le_z_yes t) (know w32 (known (plainly i) ∷ []) x g).low

eighth_source : (k : ℕ) {x a : ℤ} → x ≡ a → negsuc 1048575 ≤ℤ (a +ℤ pos k) → bounded (divided (x +ℤ pos k) 8) (negsuc 15) (pos 15) ≡ eighth (a +ℤ pos k)
unfolding eighth
eighth_source k {x} {a} e h = rw e (bounded_source (divided (a +ℤ pos k) 8) (negsuc 15) (pos 15) ∙ ap (λ (z : ℤ). signed_to 15 z) (divided_source (a +ℤ pos k) h).1)

part_source : (k : ℕ) {x w : ℤ} → x ≡ w → negsuc 1048575 ≤ℤ (pos k *ℤ w +ℤ pos 63) → divided (pos k *ℤ x +ℤ pos 63) 128 ≡ part k w
unfolding part
part_source k {x} {w} e h = rw e (divided_source (pos k *ℤ w +ℤ pos 63) h).2

-- `a` with the outer taps
tapped_source : (s : Samples) → pos 3 *ℤ (s.q0 -ℤ s.p0) +ℤ bounded (s.p1 -ℤ s.q1) (negsuc 127) (pos 127) ≡ tapped s
unfolding tapped across
tapped_source s = ap (λ (z : ℤ). pos 3 *ℤ (s.q0 -ℤ s.p0) +ℤ z) (bounded_source (s.p1 -ℤ s.q1) (negsuc 127) (pos 127))

module _ (e : List ℕ) (b : Bytes e) where
  byte : (k : ℕ) → In (pos 0) (pos 255) (pos (get_or e k 0))
  byte k = unsigned_below (omega (arith, b k))

  pub across_in : In (negsuc 764) (pos 765) (across (samples_across e))
  unfolding across
  across_in = inside (know w32 (known (plainly (byte 3)) ∷ known (plainly (byte 4)) ∷ []) (3 ⊙ (v 1 ⊖ v 0)) tt)

  pub tapped_in : In (negsuc 892) (pos 892) (tapped (samples_across e))
  unfolding tapped
  tapped_in = inside (know w32 (known (plainly across_in) ∷ known (plainly (signed_in 127 _)) ∷ []) (v 0 ⊕ v 1) tt)

  -- the kth sample, moved by steps
  abbrev Moved : (ℕ → ℕ) → List ℤ → ℕ → Type 0
  Moved f steps k = f k ≡ clip_z (pos (get_or e k 0) +ℤ get_or steps k (pos 0))

  stays : (k : ℕ) → get_or e k 0 ≡ clip_z (pos (get_or e k 0) +ℤ pos 0)
  stays k = sym (clip_still (b k))

  added : (k : ℕ) {x y : ℤ} → x ≡ y → clip_z (pos (get_or e k 0) +ℤ x) ≡ clip_z (pos (get_or e k 0) +ℤ y)
  added k p = ap (λ (z : ℤ). clip_z (pos (get_or e k 0) +ℤ z)) p

  taken : (k : ℕ) {x y : ℤ} → x ≡ y → clip_z (pos (get_or e k 0) -ℤ x) ≡ clip_z (pos (get_or e k 0) -ℤ y)
  taken k p = ap (λ (z : ℤ). clip_z (pos (get_or e k 0) -ℤ z)) p

  none_source : (k : ℕ) → k < 8 → Moved (λ i. get_or e i 0) no_steps k
  unfolding no_steps sides
  none_source = cases8 (Moved (λ i. get_or e i 0) no_steps) (stays 0) (stays 1) (stays 2) (stays 3) (stays 4) (stays 5) (stays 6) (stays 7)

  simple_source : (k : ℕ) → k < 8 → Moved (simple_sample e) (common_steps_of (tapped (samples_across e))) k
  unfolding simple_sample common_steps_of sides
  simple_source =
      let t = tapped_source (samples_across e) in
      cases8 (Moved (simple_sample e) (common_steps_of (tapped (samples_across e)))) (stays 0) (stays 1) (stays 2)
      (added 3 (eighth_source 3 t (far tapped_in (v 0 ⊕ lit (pos 3)) tt tt))) (taken 4 (eighth_source 4 t (far tapped_in (v 0 ⊕ lit (pos 4)) tt tt)))
      (stays 5) (stays 6) (stays 7)

  edge_source : (k : ℕ) → k < 8 → Moved (edge_sample e) (macroblock_steps_of (signed_byte_z (tapped (samples_across e)))) k
  unfolding edge_sample macroblock_steps_of sides
  edge_source =
      let t = bounded_source _ (negsuc 127) (pos 127) ∙ ap (λ (z : ℤ). signed_byte_z z) (tapped_source (samples_across e)) in
      let w = signed_in 127 (tapped (samples_across e)) in
      let near = part_source 27 t (far w (27 ⊙ v 0 ⊕ lit (pos 63)) tt tt) in
      let next = part_source 18 t (far w (18 ⊙ v 0 ⊕ lit (pos 63)) tt tt) in
      let last = part_source 9 t (far w (9 ⊙ v 0 ⊕ lit (pos 63)) tt tt) in
      cases8 (Moved (edge_sample e) (macroblock_steps_of (signed_byte_z (tapped (samples_across e))))) (stays 0)
      (added 1 last) (added 2 next) (added 3 near) (taken 4 near) (taken 5 next) (taken 6 last) (stays 7)

  inner_source : (k : ℕ) → k < 8 → Moved (inner_sample e) (inner_steps_of (across (samples_across e))) k
  unfolding inner_sample across inner_steps_of sides half
  inner_source =
      let near = eighth_source 4 {x = across (samples_across e)} refl (far across_in (v 0 ⊕ lit (pos 4)) tt tt) in
      let next = ap (λ (z : ℤ). divided (z +ℤ pos 1) 2) near ∙ (divided_source _ (far (eighth_in _) (v 0 ⊕ lit (pos 1)) tt tt)).0 in
      cases8 (Moved (inner_sample e) (inner_steps_of (across (samples_across e)))) (stays 0) (stays 1)
      (added 2 next) (added 3 (eighth_source 3 {x = across (samples_across e)} refl (far across_in (v 0 ⊕ lit (pos 3)) tt tt))) (taken 4 near) (taken 5 next) (stays 6) (stays 7)

-- ---- and the whole
branches : {A : Type 0} (t u m : Bool) {a b c d : ℕ} {w x y z : A} (f : A → ℕ) → a ≡ f w → b ≡ f x → c ≡ f y → d ≡ f z → cond t a (cond u b (cond m c d)) ≡ f (cond t w (cond u x (cond m y z)))
branches true u m f p q r s = p
branches false true m f p q r s = q
branches false false true f p q r s = r
branches false false false f p q r s = s

not_not : (t : Bool) → not (not t) ≡ t
not_not true = refl
not_not false = refl

-- `sample` is the kth of what `filter` gives
pub sample_source : (e : List ℕ) (simple edge : Bool) (limit inner threshold k : ℕ) → Bytes e → k < 8
    → sample e simple edge limit inner threshold k ≡ get_or (filter_of e simple edge limit inner threshold) k 0
unfolding sample
sample_source e simple edge limit inner threshold k b h =
    let s = samples_across e in
    rw (ok_source s limit, smooth_source s inner, not_not (ltb (kernel.rough_at s inner) 6), hev_source s threshold)
    (branches (not (kernel.within_limit_of s limit) || not simple && ltb (kernel.rough_at s inner) 6) (simple || kernel.high_variance_of s threshold) edge
    (λ (l : List ℤ). clip_z (pos (get_or e k 0) +ℤ get_or l k (pos 0))) (none_source e b k h) (simple_source e b k h) (edge_source e b k h) (inner_source e b k h)
    ∙ sym (filter_at e simple edge limit inner threshold k h ∙ ap (λ (l : List ℤ). clip_z (pos (get_or e k 0) +ℤ get_or l k (pos 0))) (steps_by_tests s simple edge limit inner threshold)))
