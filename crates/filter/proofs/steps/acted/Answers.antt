-- `acted` meets its contract: the samples moved by the rule's steps.
use Rattle.numbers.specs.Words.{◌∙◌, ap}
use Rattle.filter.specs.Kernel.{moved_of}
use Rattle.filter.specs.KernelLaws.{steps_in}
use Rattle.filter.proofs.steps.acted.Goals as goal

pub moved-requires : goal.moved-requires
moved-requires c = rw c.steps-s.ensures (steps_in _ _)

pub returns : goal.returns
returns c = c.moved.ensures ∙ ap (moved_of _) c.steps-s.ensures
