use Rattle.numbers.specs.Words.{ℕ, ◌-◌, arith, sym, ap, true, false, le-ltb, lt-ltb}
use Rattle.wide.specs.WideLaws.{bit_is}
use Rattle.wide.proofs.wide.Wide.bit.Goals as goal

pub returns-then-x-high : goal.returns-then-x-high
returns-then-x-high c =
    bit_is c.args.self c.args.prob true c.low-x.ensures.0 c.high.ensures.0 (sym (lt-ltb _ _ c.if-x-high.true))
    (ap (λ (n : ℕ). c.args.self.value - n) c.taken.ensures) c.part_of.ensures c.lifted.ensures

pub returns : goal.returns
returns c =
    bit_is c.args.self c.args.prob false c.low-x.ensures.0 c.high.ensures.0 (sym (le-ltb _ _ c.if-x-high.false))
    (omega arith) c.part_of-2.ensures c.lifted-2.ensures
