use Rattle.frame.proofs.Leaves.{taken_length, literal_missing, literal_got}
use Rattle.frame.proofs.literal.literal.Goals as goal

pub slice_bounds-extra_bits-end : goal.slice_bounds-extra_bits-end
slice_bounds-extra_bits-end c = taken_length _ c.requires

pub returns-in_default : goal.returns-in_default
returns-in_default c = rw c.nowhere.ensures (literal_missing _ _ _ c.requires c.extra_bits.ensures.0 c.in_default.is)

pub returns : goal.returns
returns c = literal_got _ _ _ c.requires c.extra_bits.ensures.0 (λ i. (c.type_inv.s i).fits) c.in-Ok.is
