-- `sum` meets its contract: a byte and a bounded number, summed and clipped.
use Rattle.numbers.specs.Words.{◌∙◌, ap, [], ◌∷◌, is, ◌⊕◌, v, known, there, answered, unsigned, clip_z, w16}
use Rattle.planes.proofs.add.sum.Goals as goal

pub returns : goal.returns
returns c =
    c.clipped.ensures
    ∙ ap clip_z (is w16 (known (answered w16 c.from.ensures (unsigned c.ranges.p) tt) ∷ known (there w16 c.requires tt) ∷ []) (v 0 ⊕ v 1) tt)
