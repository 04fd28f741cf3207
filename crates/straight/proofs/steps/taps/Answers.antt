-- `taps` meets its contract.
use Rattle.numbers.specs.Words.{◌∙◌, ap, ap₂, ℤ, ◌-ℤ◌, answered, called, signed_byte_z, signed_in, w8}
use Rattle.filter.specs.Kernel.{samples_across}
use Rattle.straight.specs.BytesLaws.{less_same}
use Rattle.straight.proofs.steps.taps.Goals as goal

pub returns : goal.returns
returns c =
    let s = samples_across c.args.e.now in
    let e = c.minus.ensures ∙ ap₂ (λ (x y : ℤ). signed_byte_z (x -ℤ y)) (called w8 c.lowered.ensures.value c.lowered.ensures.fact tt).eq (called w8 c.lowered-2.ensures.value c.lowered-2.ensures.fact tt).eq in
    (answered w8 (e ∙ ap (λ (z : ℤ). signed_byte_z z) (less_same s.p1 s.q1)) (signed_in 127 _) tt).eq
