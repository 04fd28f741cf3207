use Rattle.numbers.specs.Words.{refl, ap, ltb}
use Rattle.wide.specs.WideLaws.{bit_is}
use Rattle.residual.proofs.symbols.even.Goals as goal

pub after-requires : goal.after-requires
after-requires c = record { norms_value = (c.requires.0, (c.requires.1, c.low-x.ensures.1)); on_value = ap (ltb c.low-x.result) c.high.ensures }

pub returns : goal.returns
returns c = (bit_is c.args.w c.args.prob _ c.low-x.ensures.0 c.high.ensures refl refl refl c.after.ensures.0, c.after.ensures.1)
