-- `pull` meets its contract.
use Rattle.numbers.specs.Words.{◌∙◌, ap, ap₂, ℤ, ◌+ℤ◌, ◌-ℤ◌, inside, any, answered, called, signed_byte_z, signed_in, w8}
use Rattle.filter.specs.Kernel as kernel
use Rattle.straight.specs.BytesLaws.{less_same, thrice}
use Rattle.straight.proofs.steps.pull.Goals as goal

pub returns : goal.returns
unfolding kernel.across
returns c =
    let z = kernel.samples_across c.args.e.now in
    let d = (answered w8 (c.minus-d.ensures ∙ ap₂ (λ (x y : ℤ). signed_byte_z (x -ℤ y)) (called w8 c.lowered.ensures.value c.lowered.ensures.fact tt).eq (called w8 c.lowered-2.ensures.value c.lowered-2.ensures.fact tt).eq ∙ ap (λ (z : ℤ). signed_byte_z z) (less_same z.q0 z.p0)) (signed_in 127 _) tt).eq in
    let a = any w8 c.ranges.c in
    let one = (answered w8 (c.plus.ensures ∙ ap₂ (λ (x y : ℤ). signed_byte_z (x +ℤ y)) a.eq d) (signed_in 127 _) tt).eq in
    let two = (answered w8 (c.plus-2.ensures ∙ ap₂ (λ (x y : ℤ). signed_byte_z (x +ℤ y)) one d) (signed_in 127 _) tt).eq in
    (answered w8 (c.plus-3.ensures ∙ ap₂ (λ (x y : ℤ). signed_byte_z (x +ℤ y)) two d ∙ thrice c.args.c (z.q0 -ℤ z.p0) (inside a)) (signed_in 127 _) tt).eq
