-- `part` meets its contract.
use Rattle.numbers.specs.Words.{◌∙◌, [], ◌∷◌, pos, rounded, inside, know, ◌⊕◌, ◌⊗◌, lit, shr, v, known, any, answered, unsigned_below, w8, w16}
use Rattle.filter.specs.Kernel as kernel
use Rattle.straight.proofs.steps.part.Goals as goal

pub returns : goal.returns
unfolding kernel.part
returns c =
    let parts = known (answered w16 c.from.ensures (unsigned_below c.requires) tt) in
    let w = known (answered w16 (c.from-2.ensures ∙ (any w8 c.ranges.w).eq) (inside (any w8 c.ranges.w)) tt) in
    (rounded w8 (know w16 (parts ∷ w ∷ []) (shr (v 0 ⊗ v 1 ⊕ lit (pos 63)) 7) tt) tt).eq
