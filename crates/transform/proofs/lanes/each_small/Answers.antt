-- `each_small` meets its contract: 64 a turn.
use Rattle.numbers.specs.Words.{ℕ, ◌+◌, ◌*◌, ◌/◌, arith, ◌≡◌, refl, ◌∙◌, ap, ⊎_elim, length, all_below}
use Rattle.transform.specs.Transform.{at}
use Rattle.transform.specs.Pieces.{Blocks, is_small}
use Rattle.transform.proofs.lanes.each_small.Goals as goal

whole : {n : ℕ} → Blocks n → 64 * (n / 64) ≡ n
whole b = ⊎_elim (λ e. omega arith) (λ e. omega arith) b

pub loop-i-init : goal.loop-i-init
loop-i-init c = (omega arith, refl)

pub more_small-small-requires : goal.more_small-small-requires
more_small-small-requires c = record { from_in_bounds = omega arith; before_value = c.loop-i.invariant.1 }

pub loop-i-preserved : goal.loop-i-preserved
loop-i-preserved c =
    let e : 64 * c.loop-i.i + 64 ≡ 64 * (c.loop-i.i + 1) = omega arith in
    (omega arith, c.more_small-small.ensures ∙ ap (λ (n : ℕ). all_below n (λ (k : ℕ). is_small (at c.args.c.now k))) e)

pub returns : goal.returns
returns c =
    let e : 64 * c.loop-i.i ≡ length c.args.c.now = omega (arith, whole c.requires) in
    rw e at c.loop-i.invariant.1
