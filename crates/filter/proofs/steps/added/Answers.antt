-- `added` meets its contract.
use Rattle.numbers.specs.Words.{◌∙◌}
use Rattle.filter.specs.KernelLaws.{steps_in, steps_eight}
use Rattle.filter.proofs.steps.added.Goals as goal

pub widened-requires : goal.widened-requires
widened-requires c = rw c.steps-s.ensures (steps_in _ _)

pub returns : goal.returns
returns c = c.widened.ensures ∙ rw c.steps-s.ensures (steps_eight _ _)
