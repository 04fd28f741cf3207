-- `clamp_to` meets its contract: what `clamp` answers lies in 0..top, so the cast keeps it.
use Rattle.std.proofs.Common.{◌≡◌, refl, ap, ap₂, ◌∙◌, arith, ℤ, pos, nat_abs, ◌≤ℤ◌, w32}
use Rattle.std.specs.Int.{int_min, int_max}
use Rattle.std.specs.Int.Signed.{lt_z}
use Rattle.numbers.specs.Tests.{cond_at}
use Rattle.numbers.specs.Parts.{to_le, of_le, of_eq, lt_parts, ≤ℤ-trans}
use Rattle.numbers.specs.Know.{round}
use Rattle.numbers.specs.Hand.{there, any, answered, unsigned}
use Rattle.numbers.specs.Clamp.{clamp_z, up_to}
use Rattle.numbers.specs.ClampLaws.{clamp_in, clamp_cases}
use Rattle.numbers.proofs.clamp_to.Goals as goal

-- the library's `clamp`, where the ends are in order
library : {lo hi : ℤ} → lo ≤ℤ hi → (v : ℤ) → int_max lo (int_min v hi) ≡ clamp_z lo hi v
library {lo} {hi} l v =
    clamp_cases lo hi v (λ (z : ℤ). int_max lo (int_min v hi) ≡ z)
    (λ e. cond_at (lt_z hi v) {x = hi} {y = v} (λ (m : ℤ). int_max lo m ≡ lo) (λ f. absurd (omega (arith, lt_parts v lo e, lt_parts hi v f, to_le l))) (λ f. rw e))
    (λ e f. rw f (cond_at (lt_z hi lo) {x = lo} {y = hi} (λ (z : ℤ). z ≡ hi) (λ g. of_eq (omega (arith, lt_parts hi lo g, to_le l))) (λ g. refl)))
    (λ e f. rw (f, e))

pub returns : goal.returns
unfolding up_to
returns c =
    let h : pos 0 ≤ℤ pos c.args.top = of_le (omega arith) in
    let t = there w32 (unsigned c.ranges.top) tt in
    let same : c.clamp.result ≡ clamp_z (pos 0) (pos c.args.top) c.args.v =
    c.clamp.ensures.value ∙ ap₂ (λ (x y : ℤ). int_max (pos 0) (int_min x y)) (any w32 c.ranges.v).eq (ap (round w32) c.from.ensures ∙ t.eq) ∙ library h c.args.v in
    let i = clamp_in h c.args.v in
    ap nat_abs (answered w32 same (record { low = i.low; high = ≤ℤ-trans i.high (unsigned c.ranges.top).high }) tt).eq
