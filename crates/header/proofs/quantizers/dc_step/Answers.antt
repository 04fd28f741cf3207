use Rattle.numbers.specs.Words.{refl, rules}
use Rattle.header.specs.Quantizers.{dc_steps}
use Rattle.header.specs.QuantizersLaws.{dc_in}
use Rattle.header.proofs.quantizers.dc_step.Goals as goal

pub step-requires : goal.step-requires
step-requires c = (search rules, refl)

pub returns : goal.returns
unfolding dc_steps
returns c = dc_in c.args.i c.step.ensures
