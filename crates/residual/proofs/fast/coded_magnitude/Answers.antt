use Rattle.numbers.specs.Words.{◌-◌, arith}
use Rattle.wide.specs.WideRuns.{reads_as, reads_done}
use Rattle.coefficients.specs.BlockLaws.{magnitude_small}
use Rattle.residual.proofs.fast.coded_magnitude.Goals as goal

pub returns-then-token-lt6 : goal.returns-then-token-lt6
returns-then-token-lt6 c = (reads_as c.args.s.now 0 64 (magnitude_small _ c.if-token-lt6.true) (reads_done c.args.s.now 0 64 (c.args.token - 1)), (omega arith, c.requires.norms_value.1))
