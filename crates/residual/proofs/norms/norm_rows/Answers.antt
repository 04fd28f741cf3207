-- `norm_rows` meets its contract: one test of the code's whole table.
use Rattle.numbers.specs.Words.{count_leading_zeros, refl, build}
use Rattle.wide.specs.Wide.{doublings_of}
use Rattle.residual.specs.Symbols.{norms_of}
use Rattle.residual.proofs.norms.norm_rows.Goals as goal

pub returns : goal.returns
unfolding norms_of build doublings_of count_leading_zeros
returns c = refl
