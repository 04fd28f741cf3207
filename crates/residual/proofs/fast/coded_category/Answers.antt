use Rattle.numbers.specs.Words.{arith, pow_mono, length}
use Rattle.residual.specs.FastLaws.{reads_category}
use Rattle.residual.proofs.fast.coded_category.Goals as goal

pub overflow_add-result : goal.overflow_add-result
overflow_add-result c = omega (arith, c.extra_bits-c.ensures.1.0, pow_mono {i = length c.args.probs.now} {j = 11} c.requires.probs_len_bound.0)

pub returns : goal.returns
returns c = (
  reads_category c.args.s.now c.args.probs.now c.args.base c.extra_bits-c.ensures.0,
  (omega (arith, c.extra_bits-c.ensures.1.0, pow_mono {i = length c.args.probs.now} {j = 11} c.requires.probs_len_bound.0), c.extra_bits-c.ensures.1.1),
)
