-- Laws of clamping: the result lies in the range, a number of the range stays, and the ends.
use Rattle.std.specs.Prelude.{◌≡◌, refl, true, false, cond, ℕ, ◌≤◌, ℤ, pos, negsuc, nat_abs, ◌≤ℤ◌}
use Rattle.std.proofs.Common.{ap, ◌∙◌, arith}
use Rattle.std.specs.Int.Signed.{lt_z, ≤ℤ_refl, yes_non_neg, pos-nat_abs}
use Rattle.numbers.specs.Tests.{cond_at}
use Rattle.numbers.specs.In.{In}
use Rattle.numbers.specs.Parts.{up, to_le, of_le, of_eq, lt_parts, nlt_le}
use Rattle.numbers.specs.Hand.{unsigned_below}
use Rattle.numbers.specs.Clamp.{clamp_z, up_to, signed_to}

-- the two tests, in this order
pub clamp_tests : (lo hi v : ℤ) → clamp_z lo hi v ≡ cond (lt_z v lo) lo (cond (lt_z hi v) hi v)
unfolding clamp_z
clamp_tests lo hi v = refl

-- what holds of each answer, as the two tests say, holds of the clamped number
pub clamp_cases : (lo hi v : ℤ) (P : ℤ → Type 0)
    → (lt_z v lo ≡ true → P lo) → (lt_z v lo ≡ false → lt_z hi v ≡ true → P hi) → (lt_z v lo ≡ false → lt_z hi v ≡ false → P v)
    → P (clamp_z lo hi v)
unfolding clamp_z
clamp_cases lo hi v P f g h = cond_at (lt_z v lo) P f (λ e. cond_at (lt_z hi v) P (g e) (h e))

-- the result lies in the range
pub clamp_in : {lo hi : ℤ} → lo ≤ℤ hi → (v : ℤ) → In lo hi (clamp_z lo hi v)
clamp_in {lo} {hi} l v =
    clamp_cases lo hi v (In lo hi) (λ e. record { low = ≤ℤ_refl lo; high = l }) (λ e f. record { low = l; high = ≤ℤ_refl hi })
    (λ e f. record { low = nlt_le v lo e; high = nlt_le hi v f })

-- a number of the range stays
pub clamp_same : {lo hi v : ℤ} → In lo hi v → clamp_z lo hi v ≡ v
clamp_same {lo} {hi} {v} i =
    clamp_cases lo hi v (λ (z : ℤ). z ≡ v) (λ e. of_eq (omega (arith, lt_parts v lo e, to_le i.low)))
    (λ e f. of_eq (omega (arith, lt_parts hi v f, to_le i.high))) (λ e f. refl)

-- the ends
pub clamp_low : {lo hi v : ℤ} → lo ≤ℤ hi → v ≤ℤ lo → clamp_z lo hi v ≡ lo
clamp_low {lo} {hi} {v} l h =
    clamp_cases lo hi v (λ (z : ℤ). z ≡ lo) (λ e. refl) (λ e f. of_eq (omega (arith, to_le l, to_le h, lt_parts hi v f)))
    (λ e f. of_eq (omega (arith, to_le h, to_le (nlt_le v lo e))))

pub clamp_high : {lo hi v : ℤ} → lo ≤ℤ hi → hi ≤ℤ v → clamp_z lo hi v ≡ hi
clamp_high {lo} {hi} {v} l h =
    clamp_cases lo hi v (λ (z : ℤ). z ≡ hi) (λ e. of_eq (omega (arith, to_le l, to_le h, lt_parts v lo e))) (λ e f. refl)
    (λ e f. of_eq (omega (arith, to_le h, to_le (nlt_le hi v f))))

-- ---- as a natural number: it is the clamped one, lies in 0..top, and stays where it lay there
natural : (top : ℕ) → pos 0 ≤ℤ pos top
natural top = of_le (omega arith)

pub up_to_is : (top : ℕ) (v : ℤ) → pos (up_to top v) ≡ clamp_z (pos 0) (pos top) v
unfolding up_to
up_to_is top v = pos-nat_abs (clamp_z (pos 0) (pos top) v) (yes_non_neg (clamp_in (natural top) v).low)

pub up_to_abs : (top : ℕ) (v : ℤ) → nat_abs (clamp_z (pos 0) (pos top) v) ≡ up_to top v
unfolding up_to
up_to_abs top v = refl

pub up_to_in : (top : ℕ) (v : ℤ) → In (pos 0) (pos top) (pos (up_to top v))
up_to_in top v = rw up_to_is (clamp_in (natural top) v)

pub up_to_le : (top : ℕ) (v : ℤ) → up_to top v ≤ top
up_to_le top v = omega (arith, to_le (up_to_in top v).high)

pub up_to_same : {n top : ℕ} → n ≤ top → up_to top (pos n) ≡ n
up_to_same {n} {top} h = ap up (up_to_is top (pos n) ∙ clamp_same (unsigned_below h))

-- ---- as a signed number
pub signed_in : (top : ℕ) (v : ℤ) → In (negsuc top) (pos top) (signed_to top v)
signed_in top v = clamp_in (of_le (omega arith)) v
