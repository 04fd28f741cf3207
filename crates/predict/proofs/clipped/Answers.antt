-- `clipped` meets its contract: the two bounds take the number into 0..255, so the cast keeps it.
use Rattle.std.specs.Int.{int_max, int_min}
use Rattle.numbers.specs.Words.{◌≡◌, zero, suc, arith, refl, ◌∙◌, ap, ℤ, pos, negsuc, nat_abs, any, back, clamp_z, up_to, le-ltb, lt-ltb, w16}
use Rattle.predict.proofs.clipped.Goals as goal

kit : (v : ℤ) → int_min (int_max v (pos 0)) (pos 255) ≡ clamp_z (pos 0) (pos 255) v
unfolding clamp_z
kit (pos zero) = refl
kit (pos (suc n)) = rw (lt-ltb 0 (suc n) (omega arith), clamp_z, le-ltb (suc n) 0 (omega arith))
kit (negsuc n) = refl

pub returns : goal.returns
unfolding up_to
returns c =
    let low = c.max.ensures.value ∙ ap (λ (z : ℤ). int_max z (pos 0)) (any w16 c.ranges.v).eq in
    let both = c.min.ensures.value ∙ ap (λ (z : ℤ). int_min z (pos 255)) (back w16 c.max.type_inv ∙ low) in
    ap nat_abs (back w16 c.min.type_inv ∙ both ∙ kit c.args.v)
