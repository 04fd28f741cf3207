-- `steps` meets its contract: each arm is a line of the definition.
use Rattle.numbers.specs.Words.{◌∙◌, ap, ℤ, inside_read, answered, called, signed_byte_z, signed_in, w16}
use Rattle.filter.specs.Kernel.{no_steps, common_steps_of, macroblock_steps_of, inner_steps_of, steps_of}
use Rattle.filter.proofs.steps.steps.Goals as goal

pub macroblock_steps-requires : goal.macroblock_steps-requires
macroblock_steps-requires c = inside_read (answered w16 c.signed_byte.ensures (signed_in 127 _) tt)

pub returns-in-EdgeFailed : goal.returns-in-EdgeFailed
unfolding steps_of no_steps
returns-in-EdgeFailed c = rw c.in-EdgeFailed.is c.sides.ensures

pub returns-in-Rough : goal.returns-in-Rough
unfolding steps_of no_steps
returns-in-Rough c = rw c.in-Rough.is c.sides-in-Rough.ensures

pub returns-in-Simple : goal.returns-in-Simple
unfolding steps_of
returns-in-Simple c = rw c.in-Simple.is (c.common_steps.ensures ∙ ap common_steps_of (called w16 c.tapped.ensures.value c.tapped.ensures.fact tt).eq)

pub returns-in-HighVariance : goal.returns-in-HighVariance
unfolding steps_of
returns-in-HighVariance c = rw c.in-HighVariance.is (c.common_steps-in-HighVariance.ensures ∙ ap common_steps_of (called w16 c.tapped-in-HighVariance.ensures.value c.tapped-in-HighVariance.ensures.fact tt).eq)

pub returns-in-MacroblockEdge : goal.returns-in-MacroblockEdge
unfolding steps_of
returns-in-MacroblockEdge c =
    let w = c.signed_byte.ensures ∙ ap (λ (z : ℤ). signed_byte_z z) (called w16 c.tapped-in-MacroblockEdge.ensures.value c.tapped-in-MacroblockEdge.ensures.fact tt).eq in
    rw c.in-MacroblockEdge.is (c.macroblock_steps.ensures ∙ ap macroblock_steps_of (answered w16 w (signed_in 127 _) tt).eq)

pub returns-in-InnerEdge : goal.returns-in-InnerEdge
unfolding steps_of
returns-in-InnerEdge c = rw c.in-InnerEdge.is (c.inner_steps.ensures ∙ ap inner_steps_of (called w16 c.across.ensures.value c.across.ensures.fact tt).eq)
