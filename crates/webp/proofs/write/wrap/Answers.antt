use Rattle.numbers.specs.Words.{arith}
use Rattle.webp.specs.WriteLaws.{wrap_laid}
use Rattle.webp.proofs.write.wrap.Goals as goal

pub returns : goal.returns
returns c = wrap_laid _ _ (omega arith) c.if-out-end.false c.head-first.ensures c.lay.ensures c.lay-2.ensures c.lay-3.ensures
