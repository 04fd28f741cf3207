use Rattle.numbers.specs.Words.{ℕ, ◌-◌, arith, refl, ap, ltb}
use Rattle.wide.specs.WideLaws.{bit_is, taken_fits, taken_small}
use Rattle.wide.proofs.wide.Wide.even.Goals as goal

pub taken-requires : goal.taken-requires
taken-requires c = taken_small _ _ _ (ap (ltb c.low-x.result) c.high.ensures.0) (omega arith)

pub overflow_sub-self : goal.overflow_sub-self
overflow_sub-self c = rw c.taken.ensures (taken_fits _ _ _ (ap (ltb c.low-x.result) c.high.ensures.0))

pub returns : goal.returns
returns c =
    bit_is c.args.self c.args.prob _ c.low-x.ensures.0 c.high.ensures.0 refl
    (ap (λ (n : ℕ). c.args.self.value - n) c.taken.ensures) c.part_of.ensures c.lifted.ensures
