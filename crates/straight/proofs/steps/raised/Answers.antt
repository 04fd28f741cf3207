-- `raised` meets its contract.
use Rattle.numbers.specs.Words.{◌∙◌, ap, ap₂, ℤ, pos, ◌+ℤ◌, any, answered, called, signed_byte_z, signed_in, w8}
use Rattle.straight.specs.BytesLaws.{moved_is}
use Rattle.straight.proofs.steps.raised.Goals as goal

pub returns : goal.returns
returns c =
    let e = c.plus.ensures ∙ ap₂ (λ (x y : ℤ). signed_byte_z (x +ℤ y)) (called w8 c.lowered.ensures.value c.lowered.ensures.fact tt).eq (any w8 c.ranges.s).eq in
    moved_is (pos c.args.x) c.args.s (c.lifted.ensures ∙ ap (λ (z : ℤ). z +ℤ pos 128) (answered w8 e (signed_in 127 _) tt).eq)
