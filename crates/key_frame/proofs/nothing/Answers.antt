use Rattle.numbers.specs.Words.{ap}
use Rattle.frame.specs.declared.take.Answer.{Answer}
use Rattle.key_frame.proofs.nothing.Goals as goal

pub returns : goal.returns
returns c = ap (λ (a : Answer). record { number = c.args.number; finished = 0; reads = record { first = 0; tokens = 0 }; taken = a }) c.refused.ensures
