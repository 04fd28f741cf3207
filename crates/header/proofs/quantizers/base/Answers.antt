use Rattle.numbers.specs.Words.{◌+◌, arith, ◌∙◌, ap, back, up_to, up_to_le, w32}
use Rattle.header.specs.Own.{segmented_of}
use Rattle.header.proofs.quantizers.base.Goals as goal

pub returns : goal.returns
returns c = let e = c.clamp_to.ensures ∙ ap (up_to 127) (back w32 c.segmented.type_inv ∙ c.segmented.ensures) in (e, rw e (omega (arith, up_to_le 127 (segmented_of c.args.h.now 31 (6 + c.args.segment)))))
