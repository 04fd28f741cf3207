-- The kit's `clamp` is ours.
use Rattle.std.specs.Int.{int_max, int_min}
use Rattle.numbers.specs.Words.{◌≡◌, arith, refl, ◌∙◌, ℤ, ◌≤ℤ◌, lt_z, to_le, of_eq, lt_parts, cond_at, clamp_z, clamp_cases, clamp_in, Know, round, answered, T, within, w16}

kit : {lo hi : ℤ} → lo ≤ℤ hi → (v : ℤ) → int_max lo (int_min v hi) ≡ clamp_z lo hi v
kit {lo} {hi} l v =
    clamp_cases lo hi v (λ (z : ℤ). int_max lo (int_min v hi) ≡ z)
    (λ e. cond_at (lt_z hi v) (λ (m : ℤ). int_max lo m ≡ lo) (λ f. absurd (omega (arith, lt_parts v lo e, lt_parts hi v f, to_le l))) (λ f. rw e))
    (λ e f. rw f (cond_at (lt_z hi lo) (λ (z : ℤ). z ≡ hi) (λ g. of_eq (omega (arith, lt_parts hi lo g, to_le l))) (λ g. refl)))
    (λ e f. rw (f, e))

-- what it answered, as the machine reads it
pub clamped : {lo hi : ℤ} → lo ≤ℤ hi → (v : ℤ) {r : ℤ} → r ≡ int_max lo (int_min v hi) → T (within w16 lo hi) → Know (round w16 r) (clamp_z lo hi v) lo hi
clamped l v e t = answered w16 (e ∙ kit l v) (clamp_in l v) t
