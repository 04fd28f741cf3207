-- `mean` meets its contract: the sum fits 32 bits, and an eighth of it fits 16.
use Rattle.numbers.specs.Words.{◌∙◌, [], ◌∷◌, pos, rounded, inside, inside_read, wider, know, ◌⊕◌, lit, shr, v, known, any, answered, w16, w32}
use Rattle.planes.proofs.add.mean.Goals as goal

pub returns : goal.returns
returns c =
    let dc = known (answered w32 (c.from.ensures ∙ (any w16 c.ranges.dc).eq) (inside (any w16 c.ranges.dc)) tt) in
    let k = rounded w16 (know w32 (dc ∷ []) (shr (v 0 ⊕ lit (pos 4)) 3) tt) tt in (k.eq, inside_read (wider k tt))
