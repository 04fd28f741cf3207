-- Laws of the tests and the rules in bytes: sums taken into a byte's range stand for the numbers of the kernel.
use Rattle.std.specs.Prelude.{◌+◌, ◌*◌, ◌/◌, ◌≤◌, ◌<◌, ◌≡◌, ◌&&◌, ◌||◌, ◌∷◌, ◌+ℤ◌, ◌-ℤ◌, ◌*ℤ◌, ◌≤ℤ◌}
use Rattle.numbers.specs.Words.{ℕ, min, max, arith, refl, sym, ◌∙◌, ap, ap₂, Bool, true, false, not, cond, inl, inr, ltb, leb, T, lit<, lt_or, le-leb, le-ltb, lt-leb, lt-ltb, List, [], get_or, build, ◌∷≡◌, ℤ, pos, negsuc, neg_ℤ, nat_abs, +ℤ_idl, +ℤ_idr, lt_z, shr_z, In, to_le, of_le, of_eq, lt_parts, nlt_le, add_parts, sub_parts_ℤ, up_times, dn_times, shr_parts, within, Know, plainly, round, inside, known, answered, clamp_z, clip_z, signed_to, signed_byte_z, clamp_cases, clamp_same, clamp_low, clamp_high, up_to_abs, signed_in, w8, w16}
use Rattle.numbers.specs.Eval as eval
use Rattle.filter.specs.Kernel.{Samples, apart, within_limit_of, smooth, rough_at, high_variance_of, eighth, part, half, sides, no_steps, common_steps_of, macroblock_steps_of, inner_steps_of, moved_of}
use Rattle.filter.specs.KernelLaws.{first_past, part_in}
use Rattle.straight.specs.Straight.{acts_of, half_step_of, roughest}

-- ---- the tests
leb_same : (a b c d : ℕ) → (a ≤ b → c ≤ d) → (c ≤ d → a ≤ b) → leb a b ≡ leb c d
leb_same a b c d f g = elim (lt_or d c) [
  | inl h ↦ elim (lt_or b a) [ inl k ↦ lt-leb a b k ∙ sym (lt-leb c d h) | inr k ↦ absurd (omega (arith, f k)) ]
  | inr h ↦ le-leb a b (g h) ∙ sym (le-leb c d h)
]

-- the edge test, halved: a sum that stops at 255 is above every limit below that
pub within_bytes : (e : Samples) (limit : ℕ) → limit < 255 → leb (min (half_step_of e) 255) limit ≡ within_limit_of e limit
unfolding within_limit_of half_step_of
within_bytes e limit h = by (apart e.p0 e.q0) (apart e.p1 e.q1)
  where
    by : (a b : ℕ) → leb (min (2 * a + b / 2) 255) limit ≡ leb (4 * a + b) (2 * limit + 1)
    by a b = leb_same (min (2 * a + b / 2) 255) limit (4 * a + b) (2 * limit + 1) (λ k. omega arith) (λ k. omega arith)

-- two numbers are at most t, and one of them is above it, where their maximum is
max_most : (a b t : ℕ) → leb (max a b) t ≡ leb a t && leb b t
max_most a b t = elim (lt_or t a) [
  | inl h ↦ rw (lt-leb a t h) (lt-leb (max a b) t (omega arith))
  | inr h ↦ rw (le-leb a t h) (leb_same (max a b) t b t (λ k. omega arith) (λ k. omega arith))
]

max_above : (a b t : ℕ) → ltb t (max a b) ≡ ltb t a || ltb t b
max_above a b t = elim (lt_or t a) [
  | inl h ↦ rw (lt-ltb t a h) (lt-ltb t (max a b) (omega arith))
  | inr h ↦ rw (le-ltb t a h) (elim (lt_or t b) [
    | inl k ↦ lt-ltb t (max a b) (omega arith) ∙ sym (lt-ltb t b k)
    | inr k ↦ le-ltb t (max a b) (omega arith) ∙ sym (le-ltb t b k)
  ])
]

-- the six pairs are smooth where the roughest is
smooth_bytes : (e : Samples) (inner : ℕ) → leb (roughest e) inner ≡ not (ltb (rough_at e inner) 6)
unfolding roughest rough_at smooth
smooth_bytes e inner =
    six (apart e.p3 e.p2) (apart e.p2 e.p1) (apart e.p1 e.p0) (apart e.q3 e.q2) (apart e.q2 e.q1) (apart e.q1 e.q0)
    ∙ first_past _ _ _ _ _ _
  where
    more : (a b : ℕ) {z : Bool} → leb a inner ≡ z → leb (max a b) inner ≡ z && leb b inner
    more a b e = max_most a b inner ∙ ap (λ (x : Bool). x && leb b inner) e

    six : (a b c d f g : ℕ) → leb (max (max (max (max (max a b) c) d) f) g) inner ≡ leb a inner && leb b inner && leb c inner && leb d inner && leb f inner && leb g inner
    six a b c d f g = more (max (max (max (max a b) c) d) f) g (more (max (max (max a b) c) d) f (more (max (max a b) c) d (more (max a b) c (max_most a b inner))))

pub variance_bytes : (e : Samples) (threshold : ℕ) → ltb threshold (max (apart e.p1 e.p0) (apart e.q1 e.q0)) ≡ high_variance_of e threshold
unfolding high_variance_of
variance_bytes e threshold = max_above (apart e.p1 e.p0) (apart e.q1 e.q0) threshold

pub acts_bytes : (e : Samples) (simple : Bool) (limit inner : ℕ) → within_limit_of e limit && (simple || leb (roughest e) inner) ≡ acts_of e simple limit inner
unfolding acts_of
acts_bytes e simple limit inner = ap (λ (b : Bool). within_limit_of e limit && (simple || b)) (smooth_bytes e inner)

-- ---- a sum taken into a range on the way: what is beyond the range stays beyond it
module _ {lo hi : ℤ} (l : lo ≤ℤ hi) (v d : ℤ) (low : lt_z v lo ≡ true → d ≤ℤ pos 0) (high : lt_z hi v ≡ true → pos 0 ≤ℤ d) where
  clamp_again : clamp_z lo hi (clamp_z lo hi v +ℤ d) ≡ clamp_z lo hi (v +ℤ d)
  clamp_again =
      clamp_cases lo hi v (λ (z : ℤ). clamp_z lo hi (z +ℤ d) ≡ clamp_z lo hi (v +ℤ d))
      (λ e. clamp_low l (of_le (omega (arith, to_le (low e), add_parts lo d)))
      ∙ sym (clamp_low l (of_le (omega (arith, to_le (low e), lt_parts v lo e, add_parts v d)))))
      (λ e f. clamp_high l (of_le (omega (arith, to_le (high f), add_parts hi d)))
      ∙ sym (clamp_high l (of_le (omega (arith, to_le (high f), lt_parts hi v f, add_parts v d)))))
      (λ e f. refl)

range : negsuc 127 ≤ℤ pos 127
range = of_le (omega arith)

-- three times a step, one after the other
pub thrice : (c d : ℤ) → In (negsuc 127) (pos 127) c
    → signed_byte_z (signed_byte_z (signed_byte_z (c +ℤ signed_byte_z d) +ℤ signed_byte_z d) +ℤ signed_byte_z d) ≡ signed_byte_z (pos 3 *ℤ d +ℤ c)
thrice c d i = steps (signed_byte_z d) ∙ all
  where
    steps : (s : ℤ) → signed_byte_z (signed_byte_z (signed_byte_z (c +ℤ s) +ℤ s) +ℤ s) ≡ signed_byte_z (c +ℤ s +ℤ s +ℤ s)
    steps s =
        let a = add_parts c s in
        let b = add_parts (c +ℤ s) s in
        let m = negsuc 127 in
        let n = pos 127 in
        ap (λ (z : ℤ). signed_byte_z (z +ℤ s))
        (clamp_again range (c +ℤ s) s (λ e. of_le (omega (arith, lt_parts (c +ℤ s) m e, to_le i.low, a)))
        (λ e. of_le (omega (arith, lt_parts n (c +ℤ s) e, to_le i.high, a))))
        ∙ clamp_again range (c +ℤ s +ℤ s) s (λ e. of_le (omega (arith, lt_parts (c +ℤ s +ℤ s) m e, to_le i.low, a, b)))
        (λ e. of_le (omega (arith, lt_parts n (c +ℤ s +ℤ s) e, to_le i.high, a, b)))

    all : signed_byte_z (c +ℤ signed_byte_z d +ℤ signed_byte_z d +ℤ signed_byte_z d) ≡ signed_byte_z (pos 3 *ℤ d +ℤ c)
    all =
        let m = negsuc 127 in
        let n = pos 127 in
        clamp_cases m n d (λ (s : ℤ). signed_byte_z (c +ℤ s +ℤ s +ℤ s) ≡ signed_byte_z (pos 3 *ℤ d +ℤ c))
        (λ e. clamp_low range (of_le (omega (arith, to_le i.high, add_parts c m, add_parts (c +ℤ m) m, add_parts (c +ℤ m +ℤ m) m)))
        ∙ sym (clamp_low range (of_le (omega (arith, to_le i.high, lt_parts d m e, up_times 3 d, dn_times 3 d, add_parts (pos 3 *ℤ d) c)))))
        (λ e f. clamp_high range (of_le (omega (arith, to_le i.low, add_parts c n, add_parts (c +ℤ n) n, add_parts (c +ℤ n +ℤ n) n)))
        ∙ sym (clamp_high range (of_le (omega (arith, to_le i.low, lt_parts n d f, up_times 3 d, dn_times 3 d, add_parts (pos 3 *ℤ d) c)))))
        (λ e f. ap (λ (z : ℤ). signed_byte_z z)
        (of_eq {a = c +ℤ d +ℤ d +ℤ d} {b = pos 3 *ℤ d +ℤ c} (omega (arith, add_parts c d, add_parts (c +ℤ d) d, add_parts (c +ℤ d +ℤ d) d, up_times 3 d, dn_times 3 d, add_parts (pos 3 *ℤ d) c))))

-- the eighth of a number that was taken into the range before: its range is an eighth as wide
pub eighth_is : (k : ℕ) → k < 8 → (v : ℤ) → shr_z (signed_byte_z (signed_byte_z v +ℤ pos k)) 8 ≡ eighth (v +ℤ pos k)
unfolding eighth
eighth_is k h v = narrowed (signed_byte_z v +ℤ pos k) ∙ all
  where
    few : negsuc 15 ≤ℤ pos 15
    few = of_le (omega arith)

    narrowed : (u : ℤ) → shr_z (signed_byte_z u) 8 ≡ signed_to 15 (shr_z u 8)
    narrowed u =
        let s = shr_parts 8 u (lit< tt) in
        clamp_cases (negsuc 127) (pos 127) u (λ (z : ℤ). shr_z z 8 ≡ signed_to 15 (shr_z u 8))
        (λ e. sym (clamp_low few (of_le (omega (arith, lt_parts u (negsuc 127) e, s)))))
        (λ e f. sym (clamp_high few (of_le (omega (arith, lt_parts (pos 127) u f, s)))))
        (λ e f. sym (clamp_same (record { low = of_le (omega (arith, to_le (nlt_le u (negsuc 127) e), s)); high = of_le (omega (arith, to_le (nlt_le (pos 127) u f), s)) })))

    all : signed_to 15 (shr_z (signed_byte_z v +ℤ pos k) 8) ≡ signed_to 15 (shr_z (v +ℤ pos k) 8)
    all =
        let s = shr_parts 8 (v +ℤ pos k) (lit< tt) in
        let a = add_parts v (pos k) in
        clamp_cases (negsuc 127) (pos 127) v (λ (z : ℤ). signed_to 15 (shr_z (z +ℤ pos k) 8) ≡ signed_to 15 (shr_z (v +ℤ pos k) 8))
        (λ e. clamp_low few (of_le (omega (arith, shr_parts 8 (negsuc 127 +ℤ pos k) (lit< tt), add_parts (negsuc 127) (pos k))))
        ∙ sym (clamp_low few (of_le (omega (arith, lt_parts v (negsuc 127) e, s, a)))))
        (λ e f. clamp_high few (of_le (omega (arith, shr_parts 8 (pos 127 +ℤ pos k) (lit< tt), add_parts (pos 127) (pos k))))
        ∙ sym (clamp_high few (of_le (omega (arith, lt_parts (pos 127) v f, s, a)))))
        (λ e f. refl)

-- ---- samples less 128
pub less_same : (a b : ℤ) → a -ℤ pos 128 -ℤ (b -ℤ pos 128) ≡ a -ℤ b
less_same a b = of_eq (omega (arith, sub_parts_ℤ a (pos 128), sub_parts_ℤ b (pos 128), sub_parts_ℤ (a -ℤ pos 128) (b -ℤ pos 128), sub_parts_ℤ a b))

-- a sample moved as a signed byte is clipped to a byte
pub moved_is : (x s : ℤ) {r : ℕ} → pos r ≡ signed_byte_z (x -ℤ pos 128 +ℤ s) +ℤ pos 128 → r ≡ clip_z (x +ℤ s)
moved_is x s e = ap nat_abs (e ∙ clipped) ∙ up_to_abs 255 (x +ℤ s)
  where
    natural : pos 0 ≤ℤ pos 255
    natural = of_le (omega arith)

    clipped : signed_byte_z (x -ℤ pos 128 +ℤ s) +ℤ pos 128 ≡ clamp_z (pos 0) (pos 255) (x +ℤ s)
    clipped =
        let u = x -ℤ pos 128 +ℤ s in
        let a = sub_parts_ℤ x (pos 128) in
        let b = add_parts (x -ℤ pos 128) s in
        let c = add_parts x s in
        clamp_cases (negsuc 127) (pos 127) u (λ (z : ℤ). z +ℤ pos 128 ≡ clamp_z (pos 0) (pos 255) (x +ℤ s))
        (λ e. sym (clamp_low natural (of_le (omega (arith, lt_parts u (negsuc 127) e, a, b, c)))))
        (λ e f. sym (clamp_high natural (of_le (omega (arith, lt_parts (pos 127) u f, a, b, c)))))
        (λ e f. of_eq {a = u +ℤ pos 128} {b = x +ℤ s} (omega (arith, add_parts u (pos 128), a, b, c))
        ∙ sym (clamp_same (record { low = of_le (omega (arith, to_le (nlt_le u (negsuc 127) e), a, b, c)); high = of_le (omega (arith, to_le (nlt_le (pos 127) u f), a, b, c)) })))

-- ---- where no rule acts every step is 0, and so is every step of the rule that does not
only_in : (on : Bool) {z : ℤ} → In (negsuc 127) (pos 127) z → In (negsuc 127) (pos 127) (cond on z (pos 0))
only_in true i = i
only_in false i = record { low = of_le (omega arith); high = of_le (omega arith) }

-- what the code adds to p0 and takes off q0 of the common adjustment
abbrev pub step : (a : ℤ) (k : ℕ) → ℤ
step a k = shr_z (signed_byte_z (a +ℤ pos k)) 8

step_in : (a : ℤ) (k : ℕ) → In (negsuc 15) (pos 15) (step a k)
step_in a k = inside (eval.know w16 (known (plainly (signed_in 127 (a +ℤ pos k))) ∷ []) (eval.shr (eval.v 0) 3) tt)

-- a byte, one that is masked, and such a step, as the machine reads them
abbrev pub Byte : (t z : ℤ) → Type 0
Byte t z = Know t z (negsuc 127) (pos 127)

module _ {t a : ℤ} (b : Byte t a) where
  pub only_read : (on : Bool) {r : ℤ} → r ≡ cond on t (pos 0) → Byte (round w8 r) (cond on a (pos 0))
  only_read on e = answered w8 (e ∙ ap (λ (z : ℤ). cond on z (pos 0)) b.eq) (only_in on (inside b)) tt

  pub step_read : (k : ℕ) {r : ℤ} → r ≡ step t k → Know (round w8 r) (step a k) (negsuc 15) (pos 15)
  step_read k e = answered w8 (e ∙ ap (λ (z : ℤ). step z k) b.eq) (step_in a k) tt

  pub part_read : (k : ℕ) {r : ℤ} → r ≡ part k t → T (within w8 (neg_ℤ (pos k)) (pos k)) → Know (round w8 r) (part k a) (neg_ℤ (pos k)) (pos k)
  part_read k e = answered w8 (e ∙ ap (part k) b.eq) (part_in k (inside b))

  -- a byte into the sum of three steps
  pub pull_read : (x : ℤ) {r : ℤ} → r ≡ signed_byte_z (x +ℤ t) → Byte (round w8 r) (signed_byte_z (x +ℤ a))
  pull_read x e = answered w8 (e ∙ ap (λ (z : ℤ). signed_byte_z (x +ℤ z)) b.eq) (signed_in 127 (x +ℤ a)) tt

-- eight samples moved, those on the q side the other way
pub eight_moved : (e : List ℕ) {x0 x1 x2 x3 x4 x5 x6 x7 : ℕ} (t1 t2 t3 t4 t5 t6 : ℤ)
    → x0 ≡ clip_z (pos (get_or e 0 0) +ℤ pos 0) → x1 ≡ clip_z (pos (get_or e 1 0) +ℤ t1) → x2 ≡ clip_z (pos (get_or e 2 0) +ℤ t2)
    → x3 ≡ clip_z (pos (get_or e 3 0) +ℤ t3) → x4 ≡ clip_z (pos (get_or e 4 0) -ℤ t4) → x5 ≡ clip_z (pos (get_or e 5 0) -ℤ t5)
    → x6 ≡ clip_z (pos (get_or e 6 0) -ℤ t6) → x7 ≡ clip_z (pos (get_or e 7 0) +ℤ pos 0)
    → x0 ∷ x1 ∷ x2 ∷ x3 ∷ x4 ∷ x5 ∷ x6 ∷ x7 ∷ [] ≡ moved_of e (sides t1 t2 t3 t4 t5 t6)
unfolding moved_of sides build
eight_moved e t1 t2 t3 t4 t5 t6 h0 h1 h2 h3 h4 h5 h6 h7 = h0 ∷≡ h1 ∷≡ h2 ∷≡ h3 ∷≡ h4 ∷≡ h5 ∷≡ h6 ∷≡ h7 ∷≡ refl

-- the same steps on both sides of the edge, but for p0 and q0
pub same_sides : {f f' n n' p p' q q' : ℤ} → f ≡ f' → n ≡ n' → p ≡ p' → q ≡ q' → sides f n p q n f ≡ sides f' n' p' q' n' f'
same_sides {f} {f'} {n} {n'} {p} {p'} {q} {q'} a b c d =
    ap₂ (λ (x y : ℤ). sides x y p q y x) a b ∙ ap₂ (λ (x y : ℤ). sides f' n' x y n' f') c d

pub simple_steps : (acts : Bool) (t : ℤ) → let a = cond acts (signed_byte_z t) (pos 0) in
    sides (pos 0) (pos 0) (step a 3) (step a 4) (pos 0) (pos 0) ≡ cond acts (common_steps_of t) no_steps
unfolding common_steps_of no_steps clamp_z
simple_steps true t = ap₂ (λ (p q : ℤ). sides (pos 0) (pos 0) p q (pos 0) (pos 0)) (eighth_is 3 (lit< tt) t) (eighth_is 4 (lit< tt) t)
simple_steps false t = refl

pub outer_steps : (acts high : Bool) (t : ℤ) → let w = cond acts (signed_byte_z t) (pos 0) in let a = cond high w (pos 0) in let b = cond (not high) w (pos 0) in
    sides (part 9 b) (part 18 b) (step a 3 +ℤ part 27 b) (step a 4 +ℤ part 27 b) (part 18 b) (part 9 b)
    ≡ cond acts (cond high (common_steps_of t) (macroblock_steps_of (signed_byte_z t))) no_steps
unfolding common_steps_of macroblock_steps_of no_steps part clamp_z
outer_steps true true t =
    ap₂ (λ (p q : ℤ). sides (pos 0) (pos 0) p q (pos 0) (pos 0)) (+ℤ_idr _ ∙ eighth_is 3 (lit< tt) t) (+ℤ_idr _ ∙ eighth_is 4 (lit< tt) t)
outer_steps true false t =
    let w = signed_byte_z t in
    ap₂ (λ (p q : ℤ). sides (part 9 w) (part 18 w) p q (part 18 w) (part 9 w)) (+ℤ_idl (part 27 w)) (+ℤ_idl (part 27 w))
outer_steps false true t = refl
outer_steps false false t = refl

pub inner_steps_lem : (acts high : Bool) (x t : ℤ) → let a = cond acts (signed_byte_z (x +ℤ cond high t (pos 0))) (pos 0) in let n = cond (not high) (shr_z (step a 4 +ℤ pos 1) 2) (pos 0) in
    sides (pos 0) n (step a 3) (step a 4) n (pos 0) ≡ cond acts (cond high (common_steps_of (x +ℤ t)) (inner_steps_of x)) no_steps
unfolding common_steps_of inner_steps_of no_steps half clamp_z
inner_steps_lem true true x t = ap₂ (λ (p q : ℤ). sides (pos 0) (pos 0) p q (pos 0) (pos 0)) (eighth_is 3 (lit< tt) (x +ℤ t)) (eighth_is 4 (lit< tt) (x +ℤ t))
inner_steps_lem true false x t =
    ap₂ (λ (p q : ℤ). sides (pos 0) (shr_z (q +ℤ pos 1) 2) p q (shr_z (q +ℤ pos 1) 2) (pos 0)) (at 3 (lit< tt)) (at 4 (lit< tt))
  where
    at : (k : ℕ) → k < 8 → shr_z (signed_byte_z (signed_byte_z (x +ℤ pos 0) +ℤ pos k)) 8 ≡ eighth (x +ℤ pos k)
    at k h = eighth_is k h (x +ℤ pos 0) ∙ ap (λ (z : ℤ). eighth (z +ℤ pos k)) (+ℤ_idr x)
inner_steps_lem false true x t = refl
inner_steps_lem false false x t = refl
