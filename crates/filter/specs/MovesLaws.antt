-- How far an edge can move: no sample passes its bound, every bound is reached, and what is level across the edge stays as it is.
use Rattle.std.specs.Prelude.{◌+◌, ◌≤◌, ◌<◌, ◌≡◌, ◌&&◌, ◌||◌, ◌∷◌, ◌+ℤ◌, ◌-ℤ◌}
use Rattle.numbers.specs.Words.{ℕ, zero, suc, arith, refl, sym, ap, Bool, true, false, not, cond, ltb, lit<, lit≤, List, [], length, get_or, replicate, build, ℤ, pos, negsuc, neg_ℤ, nat_abs, In, up, dn, to_le, of_eq, lt_parts, add_parts, up_neg, dn_neg, sub_parts_ℤ, nat_abs_parts, In_wider, clamp_z, up_to, clip_z, signed_byte_z, clamp_cases, up_to_is, signed_in}
use Rattle.filter.specs.Kernel.{Rule, EdgeFailed, Rough, Simple, HighVariance, MacroblockEdge, InnerEdge, Samples, samples_across, apart, within_limit_of, first_false, smooth, rough_at, high_variance_of, rule_of, across, tapped, eighth, part, half, sides, no_steps, common_steps_of, macroblock_steps_of, inner_steps_of, steps_of, moved_of, filter_of}
use Rattle.filter.specs.KernelLaws.{Bytes, eighth_in, half_in, part_in, moved_none, filter_at, steps_by_tests}
use Rattle.filter.specs.Moves.{bounds, farthest, moves_of, cliff}

-- ---- no step passes its bound
-- a step of at most n, either way; and each step of a list at most its number
record By (n : ℕ) (z : ℤ) : Type 0 where
  most : nat_abs z ≤ n

record Within (steps : List ℤ) (most : List ℕ) : Type 0 where
  at : (k : ℕ) → By (get_or most k 0) (get_or steps k (pos 0))

within_[] : Within [] []
within_[] = record { at = λ k. record { most = lit≤ tt } }

within_∷ : {x : ℤ} {n : ℕ} {xs : List ℤ} {ns : List ℕ} → By n x → Within xs ns → Within (x ∷ xs) (n ∷ ns)
within_∷ {x} {n} {xs} {ns} p h = record { at = go }
  where
    go : (k : ℕ) → By (get_or (n ∷ ns) k 0) (get_or (x ∷ xs) k (pos 0))
    go zero = p
    go (suc k) = h.at k

by_none : {n : ℕ} → By n (pos 0)
by_none = record { most = omega arith }

abs_most : {n : ℕ} (z : ℤ) → up z ≤ n + dn z → dn z ≤ n + up z → nat_abs z ≤ n
abs_most (pos a) h l = omega arith
abs_most (negsuc a) h l = omega arith

by_in : (n : ℕ) {z : ℤ} → In (neg_ℤ (pos n)) (pos n) z → By n z
by_in n {z} i =
    record { most = abs_most z (omega (arith, to_le i.high)) (omega (arith, to_le i.low, up_neg (pos n), dn_neg (pos n))) }

by_less : {n : ℕ} {z : ℤ} → By n z → By n (neg_ℤ z)
by_less {n} {z} h = record { most = omega (arith, h.most, nat_abs_parts z, nat_abs_parts (neg_ℤ z), up_neg z, dn_neg z) }

by_wider : {n m : ℕ} {z : ℤ} → By n z → n ≤ m → By m z
by_wider h l = record { most = omega (arith, h.most) }

-- the steps of a rule: at most the bounds of any kind that gives them room
sides_within : {a b c : ℕ} {p2 p1 p0 q0 q1 q2 : ℤ} → By a p2 → By b p1 → By c p0 → By c q0 → By b q1 → By a q2 → Within (sides p2 p1 p0 q0 q1 q2) (bounds a b c)
unfolding sides
sides_within hp2 hp1 hp0 hq0 hq1 hq2 =
    within_∷ by_none (within_∷ hp2 (within_∷ hp1 (within_∷ hp0 (within_∷ (by_less hq0) (within_∷ (by_less hq1) (within_∷ (by_less hq2) (within_∷ by_none within_[])))))))

eighth_by : {n : ℕ} (z : ℤ) → 16 ≤ n → By n (eighth z)
eighth_by z l = by_wider (by_in 16 (In_wider (eighth_in z) tt)) l

part_by : (k : ℕ) {n : ℕ} {w : ℤ} → In (negsuc 127) (pos 127) w → k ≤ n → By n (part k w)
part_by k i l = by_wider (by_in k (part_in k i)) l

module _ (a b c : ℕ) where
  none_within : Within no_steps (bounds a b c)
  unfolding no_steps
  none_within = sides_within by_none by_none by_none by_none by_none by_none

  common_within : (z : ℤ) → 16 ≤ c → Within (common_steps_of z) (bounds a b c)
  unfolding common_steps_of
  common_within z h = sides_within by_none by_none (eighth_by _ h) (eighth_by _ h) by_none by_none

  macroblock_within : {w : ℤ} → In (negsuc 127) (pos 127) w → 9 ≤ a → 18 ≤ b → 27 ≤ c → Within (macroblock_steps_of w) (bounds a b c)
  unfolding macroblock_steps_of
  macroblock_within i f g h = sides_within (part_by 9 i f) (part_by 18 i g) (part_by 27 i h) (part_by 27 i h) (part_by 18 i g) (part_by 9 i f)

  inner_within : (z : ℤ) → 8 ≤ b → 16 ≤ c → Within (inner_steps_of z) (bounds a b c)
  unfolding inner_steps_of
  inner_within z g h =
      let next = by_wider (by_in 8 (In_wider (half_in (eighth_in (z +ℤ pos 4))) tt)) g in
      sides_within by_none next (eighth_by _ h) (eighth_by _ h) next by_none

-- so each rule keeps to the bounds of the kinds that it acts for
steps_within : (e : Samples) (simple edge : Bool) (limit inner threshold : ℕ) → Within (steps_of (rule_of e simple edge limit inner threshold) e) (farthest simple edge)
unfolding farthest
steps_within e simple edge limit inner threshold =
    rw (steps_by_tests e simple edge limit inner threshold) (by (within_limit_of e limit) simple (ltb (rough_at e inner) 6) (high_variance_of e threshold) edge)
  where
    by : (w s r h m : Bool) → Within (cond (not w || not s && r) no_steps (cond (s || h) (common_steps_of (tapped e)) (cond m (macroblock_steps_of (signed_byte_z (tapped e))) (inner_steps_of (across e))))) (farthest s m)
    by false true r h m = none_within _ _ _
    by false false r h true = none_within _ _ _
    by false false r h false = none_within _ _ _
    by true true r h m = common_within _ _ _ (tapped e) (lit≤ tt)
    by true false true h true = none_within _ _ _
    by true false true h false = none_within _ _ _
    by true false false true true = common_within _ _ _ (tapped e) (lit≤ tt)
    by true false false true false = common_within _ _ _ (tapped e) (lit≤ tt)
    by true false false false true = macroblock_within _ _ _ (signed_in 127 (tapped e)) (lit≤ tt) (lit≤ tt) (lit≤ tt)
    by true false false false false = inner_within _ _ _ (across e) (lit≤ tt) (lit≤ tt)

-- clipping to a byte only shortens the way of a byte
clip_nearer : {x n : ℕ} {d : ℤ} → x < 256 → By n d → apart (pos (clip_z (pos x +ℤ d))) (pos x) ≤ n
clip_nearer {x} {n} {d} h s =
    let y = pos x +ℤ d in
    let a = add_parts (pos x) d in
    let m : up d + dn d ≤ n = omega (arith, s.most, nat_abs_parts d) in
    rw (up_to_is 255 y)
    (clamp_cases (pos 0) (pos 255) y (λ (z : ℤ). apart z (pos x) ≤ n)
    (λ t. abs_most (pos 0 -ℤ pos x) (omega (arith, sub_parts_ℤ (pos 0) (pos x))) (omega (arith, sub_parts_ℤ (pos 0) (pos x), lt_parts y (pos 0) t)))
    (λ t u. abs_most (pos 255 -ℤ pos x) (omega (arith, sub_parts_ℤ (pos 255) (pos x), lt_parts (pos 255) y u)) (omega (arith, sub_parts_ℤ (pos 255) (pos x))))
    (λ t u. abs_most (y -ℤ pos x) (omega (arith, sub_parts_ℤ y (pos x))) (omega (arith, sub_parts_ℤ y (pos x)))))

-- THE LAW: no sample moves farther than its bound
pub moves_at_most : (e : List ℕ) (simple edge : Bool) (limit inner threshold k : ℕ) → Bytes e → k < 8
    → apart (pos (get_or (filter_of e simple edge limit inner threshold) k 0)) (pos (get_or e k 0)) ≤ get_or (farthest simple edge) k 0
moves_at_most e simple edge limit inner threshold k b h =
    rw (filter_at e simple edge limit inner threshold k h) (clip_nearer (b k) ((steps_within (samples_across e) simple edge limit inner threshold).at k))

-- ---- every bound is reached, and by one edge, with the limits of the strongest level and no sharpness: 189, 63 and 2
pub farthest_reached : (simple edge : Bool) → moves_of cliff (filter_of cliff simple edge 189 63 2) ≡ farthest simple edge
unfolding moves_of farthest build filter_of moved_of steps_of rule_of within_limit_of rough_at first_false smooth high_variance_of no_steps common_steps_of macroblock_steps_of inner_steps_of sides tapped across eighth part half up_to clamp_z
farthest_reached true true = refl
farthest_reached true false = refl
farthest_reached false true = refl
farthest_reached false false = refl

-- ---- what is level across the edge stays
-- no rule has a step to make there
level_steps : (r : Rule) (e : Samples) → across e ≡ pos 0 → tapped e ≡ pos 0 → steps_of r e ≡ no_steps
unfolding steps_of no_steps common_steps_of macroblock_steps_of inner_steps_of sides eighth part half clamp_z
level_steps EdgeFailed e a t = refl
level_steps (Rough pair) e a t = refl
level_steps Simple e a t = rw t
level_steps HighVariance e a t = rw t
level_steps MacroblockEdge e a t = rw t
level_steps InnerEdge e a t = rw a

same_less : {y z : ℤ} → y ≡ z → y -ℤ z ≡ pos 0
same_less {y} {z} p = rw p (of_eq (omega (arith, sub_parts_ℤ z z)))

level_across : (e : Samples) → e.p0 ≡ e.q0 → across e ≡ pos 0
unfolding across
level_across e p = rw (same_less (sym p))

level_tapped : (e : Samples) → across e ≡ pos 0 → e.p1 ≡ e.q1 → tapped e ≡ pos 0
unfolding tapped clamp_z
level_tapped e a p = rw (a, same_less p)

-- where p0 is q0 and p1 is q1 nothing moves, whatever lies farther out
pub level_stays : (e : List ℕ) (simple edge : Bool) (limit inner threshold : ℕ) → length e ≡ 8 → Bytes e
    → get_or e 3 0 ≡ get_or e 4 0 → get_or e 2 0 ≡ get_or e 5 0 → filter_of e simple edge limit inner threshold ≡ e
unfolding filter_of
level_stays e simple edge limit inner threshold l b near next =
    let s = samples_across e in
    let a = level_across s (ap pos near) in
    rw (level_steps (rule_of s simple edge limit inner threshold) s a (level_tapped s a (ap pos next))) (moved_none e l b)

constant_bytes : (n : ℕ) {x : ℕ} → x < 256 → Bytes (replicate n x)
constant_bytes zero h i = lit< tt
constant_bytes (suc n) h zero = h
constant_bytes (suc n) h (suc i) = constant_bytes n h i

-- eight equal samples never change
pub equal_stay : (x : ℕ) (simple edge : Bool) (limit inner threshold : ℕ) → x < 256 → filter_of (replicate 8 x) simple edge limit inner threshold ≡ replicate 8 x
equal_stay x simple edge limit inner threshold h = level_stays (replicate 8 x) simple edge limit inner threshold refl (constant_bytes 8 h) refl refl
