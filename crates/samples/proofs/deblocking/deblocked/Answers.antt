use Rattle.numbers.specs.Words.{sym, ◌∙◌, ap}
use Rattle.deblock.specs.Deblock.{deblock_number_of}
use Rattle.samples.specs.FilterCallsLaws.{deblock_called}
use Rattle.samples.proofs.deblocking.deblocked.Goals as goal

pub returns-in-Ok : goal.returns-in-Ok
returns-in-Ok c = deblock_called _ _ _ _ _ (sym (ap (λ r. deblock_number_of r) c.in-Ok.is)) c.deblock.ensures

pub returns-in-Err : goal.returns-in-Err
returns-in-Err c = deblock_called _ _ _ _ _ (c.number.ensures ∙ sym (ap (λ r. deblock_number_of r) c.in-Err.is)) c.deblock.ensures
