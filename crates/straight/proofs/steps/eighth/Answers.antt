-- `eighth` meets its contract.
use Rattle.numbers.specs.Words.{◌∙◌, ap₂, [], ◌∷◌, ℤ, ◌+ℤ◌, is, shr, v, known, any, answered, signed_byte_z, signed_in, w8}
use Rattle.straight.proofs.steps.eighth.Goals as goal

pub returns : goal.returns
returns c =
    let e = c.plus.ensures ∙ ap₂ (λ (a k : ℤ). signed_byte_z (a +ℤ k)) (any w8 c.ranges.a).eq (any w8 c.ranges.k).eq in
    is w8 (known (answered w8 e (signed_in 127 _) tt) ∷ []) (shr (v 0) 3) tt
