use Rattle.numbers.specs.Words.{arith, refl}
use Rattle.reader.specs.ReadingLaws.{split_is}
use Rattle.reader.proofs.boolean.split.Goals as goal

pub returns : goal.returns
returns c =
    let i = split_is c.args.range c.args.prob (omega arith) (omega arith) in
    rw (c.from.ensures, i.0) (refl, i.1, i.2)
