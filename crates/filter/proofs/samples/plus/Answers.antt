-- `plus` meets its contract: the sum fits, and what is clamped lies in 0..255, so the cast keeps it.
use Rattle.numbers.specs.Words.{◌∙◌, ap, [], ◌∷◌, ℤ, pos, nat_abs, ◌+ℤ◌, le_z_yes, is, ◌⊕◌, v, known, there, unsigned, clamp_z, up_to, round, w16}
use Rattle.filter.proofs.Clamped.{clamped}
use Rattle.filter.proofs.samples.plus.Goals as goal

pub returns : goal.returns
unfolding up_to
returns c =
    ap nat_abs ((clamped {lo = pos 0} {hi = pos 255} (le_z_yes tt) _ c.clamp.ensures.value tt).eq
    ∙ ap (clamp_z (pos 0) (pos 255)) (ap (λ (x : ℤ). round w16 (round w16 x +ℤ round w16 c.args.step)) c.from.ensures ∙ is w16 (known (there w16 (unsigned c.ranges.x) tt) ∷ known (there w16 c.requires tt) ∷ []) (v 0 ⊕ v 1) tt))
