-- The RFC's loop filter gives what Kernel.antt gives.
use Rattle.std.specs.Prelude.{◌+◌, ◌*◌, ◌/◌, ◌≤◌, ◌≡◌, ◌&&◌, ◌||◌, ◌+ℤ◌, ◌-ℤ◌, ◌*ℤ◌}
use Rattle.numbers.specs.Words.{ℕ, arith, refl, sym, ◌∙◌, ap, ap₂, Bool, true, false, not, cond, inl, inr, ltb, leb, T, lit<, lit≤, lt_or, le-leb, lt-leb, List, get_or, ◌∷≡◌, build_listed, ℤ, pos, negsuc, neg_ℤ, nat_abs, +ℤ_comm, +ℤ_idl, le_z, shr_z, le_z_yes, to_le, of_le, of_eq, lt_parts, nlt_le, ≤ℤ-trans, add_parts, up_neg, dn_neg, sub_parts_ℤ, shr_parts, shr_mono, clamp_z, clip_z, signed_to, signed_byte_z, clamp_cases, clamp_same, clamp_low, clamp_high, up_to_abs, signed_in}
use Rattle.filter.specs.Kernel as kernel
use Rattle.filter.specs.Kernel.{samples_across, across, tapped, eighth, part, half, sides, no_steps, common_steps_of, macroblock_steps_of, inner_steps_of, moved_of, filter_of}
use Rattle.filter.specs.KernelLaws.{Bytes, clip_still, first_past, steps_by_tests, part_in, edge_test_same}
use Rattle.filter.specs.Rfc15

-- ---- signed and unsigned
-- a pixel moved, signed, is the sample moved: on either side of the edge, since a step is taken off by adding its opposite
pub s2u_plus : (x : ℕ) (d : ℤ) → Rfc15.s2u (Rfc15.u2s x +ℤ d) ≡ clip_z (pos x +ℤ d)
unfolding Rfc15.s2u Rfc15.u2s
s2u_plus x d =
    let y = pos x -ℤ pos 128 +ℤ d in
    let z = pos x +ℤ d in
    let a = add_parts (pos x -ℤ pos 128) d in
    let b = sub_parts_ℤ (pos x) (pos 128) in
    let g = add_parts (pos x) d in
    ap nat_abs
    (clamp_cases (negsuc 127) (pos 127) y (λ (t : ℤ). t +ℤ pos 128 ≡ clamp_z (pos 0) (pos 255) z)
    (λ e. sym (clamp_low (of_le (omega arith)) (of_le (omega (arith, lt_parts y (negsuc 127) e)))))
    (λ e f. sym (clamp_high (of_le (omega arith)) (of_le (omega (arith, lt_parts (pos 127) y f)))))
    (λ e f.
    of_eq (omega (arith, add_parts y (pos 128)))
    ∙ sym (clamp_same {v = z} (record { low = of_le (omega (arith, to_le (nlt_le y (negsuc 127) e))); high = of_le (omega (arith, to_le (nlt_le (pos 127) y f))) }))))
    ∙ up_to_abs 255 z

pub u2s_minus : (a b : ℕ) → Rfc15.u2s a -ℤ Rfc15.u2s b ≡ pos a -ℤ pos b
unfolding Rfc15.u2s
u2s_minus a b =
    of_eq (omega (arith, sub_parts_ℤ (pos a -ℤ pos 128) (pos b -ℤ pos 128), sub_parts_ℤ (pos a) (pos 128), sub_parts_ℤ (pos b) (pos 128), sub_parts_ℤ (pos a) (pos b)))

-- ---- rounding: a clamp before the shift is one after it
shr_clamp : (z : ℤ) → shr_z (signed_byte_z z) 8 ≡ eighth z
unfolding eighth
shr_clamp z =
    let s = shr_parts 8 z (lit< tt) in
    clamp_cases (negsuc 127) (pos 127) z (λ (t : ℤ). shr_z t 8 ≡ signed_to 15 (shr_z z 8))
    (λ e. sym (clamp_low (of_le (omega arith)) (of_le (omega (arith, lt_parts z (negsuc 127) e)))))
    (λ e f. sym (clamp_high (of_le (omega arith)) (of_le (omega (arith, lt_parts (pos 127) z f)))))
    (λ e f. sym (clamp_same (record { low = shr_mono 8 (lit< tt) (nlt_le z (negsuc 127) e); high = shr_mono 8 (lit< tt) (nlt_le (pos 127) z f) })))

-- the clamp of `a` before it is one of the sum after it, as the shift leaves no trace of the difference
clamp_twice : (k : ℕ) (a : ℤ) → k ≤ 8 → shr_z (signed_byte_z (negsuc 127 +ℤ pos k)) 8 ≡ negsuc 15 → shr_z (signed_byte_z (pos 127 +ℤ pos k)) 8 ≡ pos 15
    → shr_z (signed_byte_z (signed_byte_z a +ℤ pos k)) 8 ≡ eighth (a +ℤ pos k)
unfolding eighth
clamp_twice k a h low high =
    let s = shr_parts 8 (a +ℤ pos k) (lit< tt) in
    let p = add_parts a (pos k) in
    clamp_cases (negsuc 127) (pos 127) a (λ (t : ℤ). shr_z (signed_byte_z (t +ℤ pos k)) 8 ≡ signed_to 15 (shr_z (a +ℤ pos k) 8))
    (λ e. low ∙ sym (clamp_low (of_le (omega arith)) (of_le (omega (arith, lt_parts a (negsuc 127) e)))))
    (λ e f. high ∙ sym (clamp_high (of_le (omega arith)) (of_le (omega (arith, lt_parts (pos 127) a f)))))
    (λ e f. shr_clamp (a +ℤ pos k))

eighth_rfc : (a : ℤ) → (shr_z (signed_byte_z (signed_byte_z a +ℤ pos 3)) 8 ≡ eighth (a +ℤ pos 3)) × (shr_z (signed_byte_z (signed_byte_z a +ℤ pos 4)) 8 ≡ eighth (a +ℤ pos 4))
eighth_rfc a = (clamp_twice 3 a (lit≤ tt) (low (negsuc 124) tt tt) (high (pos 130) tt), clamp_twice 4 a (lit≤ tt) (low (negsuc 123) tt tt) (high (pos 131) tt))
  where
    low : (z : ℤ) → T (le_z (negsuc 127) z) → T (le_z z (pos 127)) → shr_z (signed_byte_z z) 8 ≡ shr_z z 8
    low z t u = ap (λ (x : ℤ). shr_z x 8) (clamp_same (record { low = le_z_yes t; high = le_z_yes u }))

    high : (z : ℤ) → T (le_z (pos 127) z) → shr_z (signed_byte_z z) 8 ≡ pos 15
    high z t = ap (λ (x : ℤ). shr_z x 8) (clamp_high (le_z_yes tt) (le_z_yes t))

-- a part is a signed byte already
part_rfc : (k : ℕ) (a : ℤ) → k ≤ 127 → signed_byte_z (part k (signed_byte_z a)) ≡ part k (signed_byte_z a)
part_rfc k a h =
    let i = part_in k (signed_in 127 a) in
    clamp_same (record { low = ≤ℤ-trans (of_le (omega (arith, up_neg (pos k), dn_neg (pos k)))) i.low; high = ≤ℤ-trans i.high (of_le (omega arith)) })

-- ---- the tests
differ_is : (a b : ℕ) → Rfc15.differ a b ≡ kernel.apart (pos a) (pos b)
differ_is a b = ap nat_abs (u2s_minus a b)

-- two tests that say the same are equal
same_test : (m n k l : ℕ) → (m ≤ n → k ≤ l) → (k ≤ l → m ≤ n) → leb m n ≡ leb k l
same_test m n k l f g = elim (lt_or n m) [
  | inl h ↦ lt-leb m n h ∙ sym (lt-leb k l (elim (lt_or l k) [ inl j ↦ j | inr j ↦ let i = g j in absurd (omega arith) ]))
  | inr h ↦ le-leb m n h ∙ sym (le-leb k l (f h))
]

halved : (a b limit : ℕ) → leb (a * 2 + b / 2) limit ≡ leb (4 * a + b) (2 * limit + 1)
halved a b limit =
    let t = edge_test_same a b limit in
    same_test (a * 2 + b / 2) limit (4 * a + b) (2 * limit + 1) (λ h. t.1 (omega arith)) (λ h. omega (arith, t.0 h))

module _ (e : List ℕ) where
  edge_rfc : (limit : ℕ) → Rfc15.edge_test limit (Rfc15.segment_of e) ≡ kernel.within_limit_of (samples_across e) limit
  unfolding Rfc15.edge_test kernel.within_limit_of
  edge_rfc limit =
      rw (differ_is (get_or e 3 0) (get_or e 4 0), differ_is (get_or e 2 0) (get_or e 5 0))
      (halved (kernel.apart (pos (get_or e 3 0)) (pos (get_or e 4 0))) (kernel.apart (pos (get_or e 2 0)) (pos (get_or e 5 0))) limit)

  hev_rfc : (threshold : ℕ) → Rfc15.hev threshold (Rfc15.segment_of e) ≡ kernel.high_variance_of (samples_across e) threshold
  unfolding Rfc15.hev kernel.high_variance_of
  hev_rfc threshold = simp differ_is

  yes_rfc : (inner limit : ℕ) → Rfc15.filter_yes inner limit (Rfc15.segment_of e) ≡ kernel.within_limit_of (samples_across e) limit && not (ltb (kernel.rough_at (samples_across e) inner) 6)
  unfolding Rfc15.filter_yes kernel.smooth kernel.rough_at
  yes_rfc inner limit = ap₂ ◌&&◌ (edge_rfc limit) (simp differ_is (first_past _ _ _ _ _ _))

-- ---- what is moved
-- one pixel, on either side
step_rfc : (x : ℕ) {d f : ℤ} → f ≡ d → clip_z (pos x +ℤ d) ≡ Rfc15.s2u (Rfc15.u2s x +ℤ f)
step_rfc x {d} {f} p = sym (s2u_plus x f ∙ ap (λ (z : ℤ). clip_z (pos x +ℤ z)) p)

module _ (e : List ℕ) (b : Bytes e) where
  abbrev s : Rfc15.Segment
  s = Rfc15.segment_of e

  tapped_rfc : signed_byte_z (Rfc15.u2s (get_or e 2 0) -ℤ Rfc15.u2s (get_or e 5 0)) +ℤ pos 3 *ℤ (Rfc15.u2s (get_or e 4 0) -ℤ Rfc15.u2s (get_or e 3 0)) ≡ tapped (samples_across e)
  unfolding tapped across
  tapped_rfc =
      let x = samples_across e in
      rw (u2s_minus (get_or e 2 0) (get_or e 5 0), u2s_minus (get_or e 4 0) (get_or e 3 0)) (+ℤ_comm (signed_byte_z (x.p1 -ℤ x.q1)) (pos 3 *ℤ (x.q0 -ℤ x.p0)))

  across_rfc : pos 0 +ℤ pos 3 *ℤ (Rfc15.u2s (get_or e 4 0) -ℤ Rfc15.u2s (get_or e 3 0)) ≡ across (samples_across e)
  unfolding across
  across_rfc = rw (u2s_minus (get_or e 4 0) (get_or e 3 0)) (+ℤ_idl _)

  -- the amounts that `common_adjust` finds, from what it starts with
  toward : {x a : ℤ} → x ≡ a → (shr_z (signed_byte_z (signed_byte_z x +ℤ pos 3)) 8 ≡ eighth (a +ℤ pos 3)) × (shr_z (signed_byte_z (signed_byte_z x +ℤ pos 4)) 8 ≡ eighth (a +ℤ pos 4))
  toward {x} {a} p = rw p (eighth_rfc a)

  still : (k : ℕ) → clip_z (pos (get_or e k 0) +ℤ pos 0) ≡ get_or e k 0
  still k = clip_still (b k)

  none_rfc : moved_of e no_steps ≡ Rfc15.pixels_of s
  unfolding moved_of no_steps sides
  none_rfc = build_listed 8 _ ∙ (still 0 ∷≡ still 1 ∷≡ still 2 ∷≡ still 3 ∷≡ still 4 ∷≡ still 5 ∷≡ still 6 ∷≡ still 7 ∷≡ refl)

  common_rfc : moved_of e (common_steps_of (tapped (samples_across e))) ≡ Rfc15.pixels_of (Rfc15.adjusted s (Rfc15.common_adjust true s))
  unfolding moved_of common_steps_of sides Rfc15.common_adjust
  common_rfc =
      let t = toward tapped_rfc in
      build_listed 8 _
      ∙ (still 0 ∷≡ still 1 ∷≡ still 2 ∷≡ step_rfc (get_or e 3 0) t.0 ∷≡ step_rfc (get_or e 4 0) (ap neg_ℤ t.1) ∷≡ still 5 ∷≡ still 6 ∷≡ still 7 ∷≡ refl)

  inner_rfc : moved_of e (inner_steps_of (across (samples_across e))) ≡ Rfc15.pixels_of (Rfc15.subblock_act false s)
  unfolding moved_of inner_steps_of sides half Rfc15.subblock_act Rfc15.common_adjust
  inner_rfc =
      let t = toward across_rfc in
      let h = ap (λ (z : ℤ). shr_z (z +ℤ pos 1) 2) t.1 in
      build_listed 8 _
      ∙ (still 0 ∷≡ still 1 ∷≡ step_rfc (get_or e 2 0) h ∷≡ step_rfc (get_or e 3 0) t.0
      ∷≡ step_rfc (get_or e 4 0) (ap neg_ℤ t.1) ∷≡ step_rfc (get_or e 5 0) (ap neg_ℤ h) ∷≡ still 6 ∷≡ still 7 ∷≡ refl)

  -- k parts in 128, clamped
  portion : (k : ℕ) {x a : ℤ} → k ≤ 127 → x ≡ a → signed_byte_z (part k (signed_byte_z x)) ≡ part k (signed_byte_z a)
  portion k {x} {a} h p = rw p (part_rfc k a h)

  macroblock_rfc : moved_of e (macroblock_steps_of (signed_byte_z (tapped (samples_across e)))) ≡ Rfc15.pixels_of (Rfc15.mb_act false s)
  unfolding moved_of macroblock_steps_of sides part Rfc15.mb_act
  macroblock_rfc =
      let near = portion 27 (lit≤ tt) tapped_rfc in
      let next = portion 18 (lit≤ tt) tapped_rfc in
      let last = portion 9 (lit≤ tt) tapped_rfc in
      build_listed 8 _
      ∙ (still 0 ∷≡ step_rfc (get_or e 1 0) last ∷≡ step_rfc (get_or e 2 0) next ∷≡ step_rfc (get_or e 3 0) near
      ∷≡ step_rfc (get_or e 4 0) (ap neg_ℤ near) ∷≡ step_rfc (get_or e 5 0) (ap neg_ℤ next) ∷≡ step_rfc (get_or e 6 0) (ap neg_ℤ last) ∷≡ still 7 ∷≡ refl)

  -- ---- and the whole: by the tests w (edge), r (a pair is rough) and h (high variance)
  by_tests : (w simple r h edge : Bool)
      → moved_of e (cond (not w || not simple && r) no_steps (cond (simple || h) (common_steps_of (tapped (samples_across e))) (cond edge (macroblock_steps_of (signed_byte_z (tapped (samples_across e)))) (inner_steps_of (across (samples_across e))))))
      ≡ Rfc15.pixels_of (cond simple (cond w (Rfc15.adjusted s (Rfc15.common_adjust true s)) s) (cond edge (cond (w && not r) (Rfc15.mb_act h s) s) (cond (w && not r) (Rfc15.subblock_act h s) s)))
  unfolding Rfc15.mb_act Rfc15.subblock_act
  by_tests false true r h edge = none_rfc
  by_tests false false r h true = none_rfc
  by_tests false false r h false = none_rfc
  by_tests true true r h edge = common_rfc
  by_tests true false true h true = none_rfc
  by_tests true false true h false = none_rfc
  by_tests true false false true true = common_rfc
  by_tests true false false true false = common_rfc
  by_tests true false false false true = macroblock_rfc
  by_tests true false false false false = inner_rfc

  pub filter_rfc : (simple edge : Bool) (limit inner threshold : ℕ) → filter_of e simple edge limit inner threshold ≡ Rfc15.rfc_filter e simple edge limit inner threshold
  unfolding filter_of Rfc15.rfc_filter Rfc15.simple_segment Rfc15.mb_filter Rfc15.subblock_filter
  filter_rfc simple edge limit inner threshold =
      let x = samples_across e in
      rw (steps_by_tests x simple edge limit inner threshold, edge_rfc e limit, yes_rfc e inner limit, hev_rfc e threshold)
      (by_tests (kernel.within_limit_of x limit) simple (ltb (kernel.rough_at x inner) 6) (kernel.high_variance_of x threshold) edge)
