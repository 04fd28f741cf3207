use Rattle.numbers.specs.Words.{refl, rules}
use Rattle.header.specs.Quantizers.{ac_steps}
use Rattle.header.specs.QuantizersLaws.{ac_in}
use Rattle.header.proofs.quantizers.ac_step.Goals as goal

pub step-requires : goal.step-requires
step-requires c = (search rules, refl)

pub returns : goal.returns
unfolding ac_steps
returns c = ac_in c.args.i c.step.ensures
