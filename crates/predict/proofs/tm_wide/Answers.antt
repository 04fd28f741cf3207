-- `tm_wide` meets its contract: the array is filled, place by place.
use Rattle.numbers.specs.Words.{arith, filled_all}
use Rattle.predict.proofs.tm_wide.Goals as goal

pub returns : goal.returns
returns c = filled_all (omega arith) c.loop-k.invariant
