-- `still` meets its contract.
use Rattle.numbers.specs.Words.{arith, sym}
use Rattle.filter.specs.KernelLaws.{clip_still}
use Rattle.straight.proofs.steps.still.Goals as goal

pub returns : goal.returns
returns c = sym (clip_still (omega (arith, c.ranges.x.fits)))
