use Rattle.numbers.specs.Words.{ℕ, ◌-◌, arith, refl, ap, ltb}
use Rattle.wide.specs.WideLaws.{half_from, taken_fits, taken_small}
use Rattle.wide.proofs.wide.Wide.half.Goals as goal

pub taken-requires : goal.taken-requires
taken-requires c = taken_small _ _ _ (ap (ltb _) c.high.ensures.0) (omega arith)

pub overflow_sub-value : goal.overflow_sub-value
overflow_sub-value c = rw c.taken.ensures (taken_fits _ _ _ (ap (ltb _) c.high.ensures.0))

pub returns : goal.returns
returns c =
    half_from c.args.self _ refl c.high.ensures.0 refl
    (ap (λ (n : ℕ). c.args.self.value - n) c.taken.ensures) c.odd.ensures c.doubled.ensures
