-- Laws of the loop filter's kernel: which tests lead to which rule, how far a step goes, what a filtered sample is, and what never changes.
use Rattle.std.specs.Prelude.{◌+◌, ◌-◌, ◌*◌, ◌/◌, ◌≤◌, ◌<◌, ◌≡◌, ◌&&◌, ◌||◌, ◌∷◌, ◌+ℤ◌, ◌-ℤ◌, ◌*ℤ◌}
use Rattle.numbers.specs.Words.{ℕ, zero, suc, add-zero, arith, refl, sym, ◌∙◌, ap, Bool, true, false, not, cond, inl, inr, ltb, T, lit<, lt_or, eq_or, never, le-ltb, lt-ltb, List, [], length, get_or, build, get_or_build, get_or_build_past, built, get_or_constant, ℤ, pos, negsuc, neg_ℤ, nat_abs, le_z, In, Each, to_le, of_le, of_eq, add_parts, up_neg, dn_neg, sub_parts_ℤ, up_times, dn_times, shr_parts, times_mono, In_wider, num, plainly, inside, know, ◌⊕◌, lit, shr, v, known, each_[], each_∷, clip_z, signed_byte_z, up_to_le, up_to_same, signed_in, Some, w32}
pub use Rattle.filter.specs.Kernel.{Bytes}
use Rattle.filter.specs.Kernel.{Rule, EdgeFailed, Rough, Simple, HighVariance, MacroblockEdge, InnerEdge, Samples, samples_across, apart, within_limit_of, first_false, smooth, pairs, rough_at, high_variance_of, rule_of, across, tapped, eighth, part, half, sides, no_steps, common_steps_of, macroblock_steps_of, inner_steps_of, steps_of, moved_of, filter_of, pixel_of}

-- ---- how far two samples lie apart: the greater less the other
pub apart_above : (a b : ℕ) → b ≤ a → a - b ≡ apart (pos a) (pos b)
apart_above a b h = ap nat_abs (of_eq {a = pos (a - b)} {b = pos a -ℤ pos b} (omega (arith, sub_parts_ℤ (pos a) (pos b))))

pub apart_below : (a b : ℕ) → a < b → b - a ≡ apart (pos a) (pos b)
apart_below a b h =
    let e : b - a ≡ suc (b - a - 1) = omega arith in
    e ∙ ap nat_abs (of_eq {a = negsuc (b - a - 1)} {b = pos a -ℤ pos b} (omega (arith, sub_parts_ℤ (pos a) (pos b))))

-- ---- the first test that fails
first_most : (l : List Bool) → first_false l ≤ length l
unfolding first_false
first_most [] = omega arith
first_most (true ∷ l) = omega (arith, first_most l)
first_most (false ∷ l) = omega arith

first_holds : (l : List Bool) (k : ℕ) → k < first_false l → get_or l k true ≡ true
unfolding first_false
first_holds [] k h = refl
first_holds (true ∷ l) zero h = refl
first_holds (true ∷ l) (suc k) h = first_holds l k (omega arith)
first_holds (false ∷ l) k h = absurd (omega arith)

first_fails : (l : List Bool) → first_false l < length l → get_or l (first_false l) true ≡ false
unfolding first_false
first_fails [] h = absurd (omega arith)
first_fails (true ∷ l) h = first_fails l (omega arith)
first_fails (false ∷ l) h = refl

-- looked for one by one: none fails before k
module _ (l : List Bool) (k : ℕ) where
  pub first_here : k ≤ first_false l → get_or l k true ≡ false → k ≡ first_false l
  first_here g e = elim (lt_or k (first_false l)) [ inl h ↦ absurd (never (first_holds l k h) e) | inr h ↦ omega arith ]

  pub first_later : k < length l → k ≤ first_false l → get_or l k true ≡ true → k + 1 ≤ first_false l
  first_later m g e = elim (eq_or k (first_false l)) [
    | inl z ↦ absurd (never e (ap (λ (j : ℕ). get_or l j true) z ∙ first_fails l (omega (arith, z))))
    | inr z ↦ omega arith
  ]

  pub first_end : length l ≤ k → k ≤ first_false l → first_false l ≡ length l
  first_end m g = omega (arith, first_most l)

-- the six pairs by their places
module _ (e : List ℕ) (inner : ℕ) where
  pub pair_before : (k : ℕ) → k < 3 → smooth inner (pos (get_or e k 0)) (pos (get_or e (k + 1) 0)) ≡ get_or (pairs (samples_across e) inner) k true
  pair_before zero h = refl
  pair_before (suc zero) h = refl
  pair_before (suc (suc zero)) h = refl
  pair_before (suc (suc (suc k))) h = absurd (omega arith)

  pub pair_behind : (k : ℕ) → 3 ≤ k → k < 6 → smooth inner (pos (get_or e (10 - k) 0)) (pos (get_or e (9 - k) 0)) ≡ get_or (pairs (samples_across e) inner) k true
  pair_behind zero g h = absurd (omega arith)
  pair_behind (suc zero) g h = absurd (omega arith)
  pair_behind (suc (suc zero)) g h = absurd (omega arith)
  pair_behind (suc (suc (suc zero))) g h = refl
  pair_behind (suc (suc (suc (suc zero)))) g h = refl
  pair_behind (suc (suc (suc (suc (suc zero))))) g h = refl
  pair_behind (suc (suc (suc (suc (suc (suc k)))))) g h = absurd (omega arith)

-- ---- which rule acts: the tests that lead to each
module _ (e : Samples) (simple edge : Bool) (limit inner threshold : ℕ) where
  pub rule_edge_failed : within_limit_of e limit ≡ false → rule_of e simple edge limit inner threshold ≡ EdgeFailed
  unfolding rule_of
  rule_edge_failed w = simp w

  module _ (w : within_limit_of e limit ≡ true) where
    pub rule_simple : simple ≡ true → rule_of e simple edge limit inner threshold ≡ Simple
    unfolding rule_of
    rule_simple s = simp (w, s)

    module _ (s : simple ≡ false) where
      pub rule_rough : rough_at e inner < 6 → rule_of e simple edge limit inner threshold ≡ Rough (rough_at e inner)
      unfolding rule_of
      rule_rough r = simp (w, s, lt-ltb (rough_at e inner) 6 r)

      pub rule_smooth : 6 ≤ rough_at e inner → rule_of e simple edge limit inner threshold ≡ cond (high_variance_of e threshold) HighVariance (cond edge MacroblockEdge InnerEdge)
      unfolding rule_of
      rule_smooth r = simp (w, s, le-ltb (rough_at e inner) 6 r)

-- ---- how far a step goes
pub eighth_in : (a : ℤ) → In (negsuc 15) (pos 15) (eighth a)
unfolding eighth
eighth_in a = signed_in 15 _

pub half_in : {a : ℤ} → In (negsuc 15) (pos 15) a → In (negsuc 7) (pos 8) (half a)
unfolding half
half_in i = inside (know w32 (known (plainly i) ∷ []) (shr (v 0 ⊕ lit (pos 1)) 1) tt)

-- what is rounded is less than k + 1 times 128, and at least -k times 128
pub part_in : (k : ℕ) {w : ℤ} → In (negsuc 127) (pos 127) w → In (neg_ℤ (pos k)) (pos k) (part k w)
unfolding part
part_in k {w} i =
    let s = shr_parts 128 (pos k *ℤ w +ℤ pos 63) (lit< tt) in
    let a = add_parts (pos k *ℤ w) (pos 63) in
    let h = to_le (times_mono k i.high) in
    let l = to_le (times_mono k i.low) in
    let u = up_times k (negsuc 127) in
    let d = dn_times k (negsuc 127) in
    record { low = of_le (omega (arith, up_neg (pos k), dn_neg (pos k))); high = of_le (omega arith) }

-- every step of every rule lies in -127..127, on the side where it is added as on the one where it is taken off
abbrev StepIn : ℤ → Type 0
StepIn z = In (negsuc 126) (pos 127) z

less_in : {z : ℤ} → StepIn z → StepIn (neg_ℤ z)
less_in {z} i =
    record { low = of_le (omega (arith, to_le i.high, up_neg z, dn_neg z)); high = of_le (omega (arith, to_le i.low, up_neg z, dn_neg z)) }

no_step : StepIn (pos 0)
no_step = In_wider (inside (num (pos 0))) tt

sides_in : {p2 p1 p0 q0 q1 q2 : ℤ} → StepIn p2 → StepIn p1 → StepIn p0 → StepIn q0 → StepIn q1 → StepIn q2 → Each (negsuc 126) (pos 127) (sides p2 p1 p0 q0 q1 q2)
unfolding sides
sides_in a b c d e f =
    each_∷ no_step (each_∷ a (each_∷ b (each_∷ c (each_∷ (less_in d) (each_∷ (less_in e) (each_∷ (less_in f) (each_∷ no_step (each_[] tt))))))))

pub no_steps_in : Each (negsuc 126) (pos 127) no_steps
unfolding no_steps
no_steps_in = sides_in no_step no_step no_step no_step no_step no_step

pub common_in : (a : ℤ) → Each (negsuc 126) (pos 127) (common_steps_of a)
unfolding common_steps_of
common_in a = sides_in no_step no_step (In_wider (eighth_in _) tt) (In_wider (eighth_in _) tt) no_step no_step

pub macroblock_in : {w : ℤ} → In (negsuc 127) (pos 127) w → Each (negsuc 126) (pos 127) (macroblock_steps_of w)
unfolding macroblock_steps_of
macroblock_in {w} i = sides_in (at 9 tt) (at 18 tt) (at 27 tt) (at 27 tt) (at 18 tt) (at 9 tt)
  where
    at : (k : ℕ) → T (le_z (negsuc 126) (neg_ℤ (pos k)) && le_z (pos k) (pos 127)) → StepIn (part k w)
    at k t = In_wider (part_in k i) t

pub inner_in : (a : ℤ) → Each (negsuc 126) (pos 127) (inner_steps_of a)
unfolding inner_steps_of
inner_in a =
    let h : StepIn (half (eighth (a +ℤ pos 4))) = In_wider (half_in (eighth_in _)) tt in
    sides_in no_step h (In_wider (eighth_in _) tt) (In_wider (eighth_in _) tt) h no_step

pub steps_in : (r : Rule) (e : Samples) → Each (negsuc 126) (pos 127) (steps_of r e)
unfolding steps_of
steps_in EdgeFailed e = no_steps_in
steps_in (Rough pair) e = no_steps_in
steps_in Simple e = common_in (tapped e)
steps_in HighVariance e = common_in (tapped e)
steps_in MacroblockEdge e = macroblock_in (signed_in 127 (tapped e))
steps_in InnerEdge e = inner_in (across e)

-- and every rule has eight of them
pub steps_eight : (r : Rule) (e : Samples) → build 8 (λ (k : ℕ). get_or (steps_of r e) k (pos 0)) ≡ steps_of r e
unfolding build steps_of no_steps common_steps_of macroblock_steps_of inner_steps_of sides
steps_eight EdgeFailed e = refl
steps_eight (Rough pair) e = refl
steps_eight Simple e = refl
steps_eight HighVariance e = refl
steps_eight MacroblockEdge e = refl
steps_eight InnerEdge e = refl

-- ---- what is filtered
-- a sample with no step stays, on either side
pub clip_still : {x : ℕ} → x < 256 → clip_z (pos x +ℤ pos 0) ≡ x
clip_still {x} h = rw (add-zero x) (up_to_same (omega arith))

pub moved_none : (e : List ℕ) → length e ≡ 8 → Bytes e → moved_of e no_steps ≡ e
unfolding moved_of no_steps sides
moved_none e l h =
    sym (built e 8 _ 0 l (λ i k. sym (ap (λ (d : ℤ). clip_z (pos (get_or e i 0) +ℤ d)) (get_or_constant 8 i (pos 0)) ∙ clip_still (h i))))

-- the outermost samples have no step
outermost : (r : Rule) (e : Samples) → (get_or (steps_of r e) 0 (pos 0) ≡ pos 0) × (get_or (steps_of r e) 7 (pos 0) ≡ pos 0)
unfolding steps_of no_steps common_steps_of macroblock_steps_of inner_steps_of sides
outermost EdgeFailed e = (refl, refl)
outermost (Rough pair) e = (refl, refl)
outermost Simple e = (refl, refl)
outermost HighVariance e = (refl, refl)
outermost MacroblockEdge e = (refl, refl)
outermost InnerEdge e = (refl, refl)

module _ (e : List ℕ) (simple edge : Bool) (limit inner threshold : ℕ) where
  -- each of the eight is its sample with the rule's step added, clipped
  pub filter_at : (k : ℕ) → k < 8 → get_or (filter_of e simple edge limit inner threshold) k 0 ≡ clip_z (pos (get_or e k 0) +ℤ get_or (steps_of (rule_of (samples_across e) simple edge limit inner threshold) (samples_across e)) k (pos 0))
  unfolding filter_of moved_of
  filter_at k h = get_or_build 8 _ k 0 h

  filter_past : (k : ℕ) → 8 ≤ k → get_or (filter_of e simple edge limit inner threshold) k 0 ≡ 0
  unfolding filter_of moved_of
  filter_past k h = get_or_build_past 8 _ k 0 h

  pub filter_bytes : Bytes (filter_of e simple edge limit inner threshold)
  filter_bytes k = elim (lt_or k 8) [
    | inl h ↦ rw (filter_at k h) (omega (arith, up_to_le 255 (pos (get_or e k 0) +ℤ get_or (steps_of (rule_of (samples_across e) simple edge limit inner threshold) (samples_across e)) k (pos 0))))
    | inr h ↦ rw (filter_past k h) (lit< tt)
  ]

  pub outermost_stay : Bytes e → (get_or (filter_of e simple edge limit inner threshold) 0 0 ≡ get_or e 0 0) × (get_or (filter_of e simple edge limit inner threshold) 7 0 ≡ get_or e 7 0)
  outermost_stay b =
      let o = outermost (rule_of (samples_across e) simple edge limit inner threshold) (samples_across e) in (
        filter_at 0 (lit< tt) ∙ rw o.0 (clip_still (b 0)),
        filter_at 7 (lit< tt) ∙ rw o.1 (clip_still (b 7)),
      )

  -- nothing changes where the edge test fails, nor where a pair is not smooth and the filter is not the simple one
  module _ (l : length e ≡ 8) (b : Bytes e) where
    pub edge_failed_stays : within_limit_of (samples_across e) limit ≡ false → filter_of e simple edge limit inner threshold ≡ e
    unfolding filter_of steps_of
    edge_failed_stays w = rw (rule_edge_failed (samples_across e) simple edge limit inner threshold w) (moved_none e l b)

    pub rough_stays : simple ≡ false → rough_at (samples_across e) inner < 6 → filter_of e simple edge limit inner threshold ≡ e
    unfolding filter_of steps_of
    rough_stays s r =
        test (within_limit_of (samples_across e) limit) refl
      where
        test : (t : Bool) → within_limit_of (samples_across e) limit ≡ t → filter_of e simple edge limit inner threshold ≡ e
        test true w = rw (rule_rough (samples_across e) simple edge limit inner threshold w s r) (moved_none e l b)
        test false w = edge_failed_stays w

  -- `pixel` answers the kth of what `filter` gives
  pub pixel_agrees : (k : ℕ) → k < 8 → pixel_of e simple edge limit inner threshold k ≡ Some (get_or (filter_of e simple edge limit inner threshold) k 0)
  unfolding pixel_of
  pixel_agrees k h = rw (lt-ltb k 8 h)

-- ---- the tests by themselves
-- the edge test of section 15.2, 5014, which halves the outer difference
pub edge_test_same : (a b limit : ℕ) → (4 * a + b ≤ 2 * limit + 1 → 2 * a + b / 2 ≤ limit) × (2 * a + b / 2 ≤ limit → 4 * a + b ≤ 2 * limit + 1)
edge_test_same a b limit = (λ h. omega arith, λ h. omega arith)

-- six tests hold together where none of them is the first to fail
pub first_past : (a b c d e f : Bool) → a && b && c && d && e && f ≡ not (ltb (first_false (a ∷ b ∷ c ∷ d ∷ e ∷ f ∷ [])) 6)
unfolding first_false
first_past false b c d e f = refl
first_past true false c d e f = refl
first_past true true false d e f = refl
first_past true true true false e f = refl
first_past true true true true false f = refl
first_past true true true true true false = refl
first_past true true true true true true = refl

-- the steps by the tests, in the source's order: nothing to do, the two samples at the edge, a macroblock's edge, an inner edge
pub steps_by_tests : (e : Samples) (simple edge : Bool) (limit inner threshold : ℕ)
    → steps_of (rule_of e simple edge limit inner threshold) e
    ≡ cond (not (within_limit_of e limit) || not simple && ltb (rough_at e inner) 6) no_steps
    (cond (simple || high_variance_of e threshold) (common_steps_of (tapped e)) (cond edge (macroblock_steps_of (signed_byte_z (tapped e))) (inner_steps_of (across e))))
unfolding rule_of steps_of
steps_by_tests e simple edge limit inner threshold = by (within_limit_of e limit) simple (ltb (rough_at e inner) 6) (high_variance_of e threshold) edge
  where
    by : (w s r h m : Bool)
        → steps_of (cond (not w) EdgeFailed (cond s Simple (cond r (Rough (rough_at e inner)) (cond h HighVariance (cond m MacroblockEdge InnerEdge))))) e
        ≡ cond (not w || not s && r) no_steps (cond (s || h) (common_steps_of (tapped e)) (cond m (macroblock_steps_of (signed_byte_z (tapped e))) (inner_steps_of (across e))))
    by false s r h m = refl
    by true true r h m = refl
    by true false true h m = refl
    by true false false true m = refl
    by true false false false true = refl
    by true false false false false = refl
