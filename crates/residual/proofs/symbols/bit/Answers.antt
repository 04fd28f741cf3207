use Rattle.numbers.specs.Words.{refl, sym, ◌∙◌, ap, true, false, ltb, le-ltb, lt-ltb}
use Rattle.wide.specs.WideLaws.{bit_is}
use Rattle.residual.proofs.symbols.bit.Goals as goal

pub after-requires : goal.after-requires
after-requires c = record { norms_value = (c.requires.0, (c.requires.1, c.low-x.ensures.1)); on_value = sym (lt-ltb _ _ c.if-x-high.true) ∙ ap (ltb c.low-x.result) c.high.ensures }

pub returns-then-x-high : goal.returns-then-x-high
returns-then-x-high c = (bit_is c.args.w c.args.prob true c.low-x.ensures.0 c.high.ensures (sym (lt-ltb _ _ c.if-x-high.true)) refl refl c.after.ensures.0, c.after.ensures.1)

pub after-requires-2 : goal.after-requires-2
after-requires-2 c = record { norms_value = (c.requires.0, (c.requires.1, c.low-x.ensures.1)); on_value = sym (le-ltb _ _ c.if-x-high.false) ∙ ap (ltb c.low-x.result) c.high.ensures }

pub returns : goal.returns
returns c = (bit_is c.args.w c.args.prob false c.low-x.ensures.0 c.high.ensures (sym (le-ltb _ _ c.if-x-high.false)) refl refl c.after-2.ensures.0, c.after-2.ensures.1)
