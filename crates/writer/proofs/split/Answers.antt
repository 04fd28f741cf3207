use Rattle.numbers.specs.Words.{ℕ, ◌+◌, ◌*◌, ◌/◌, ◌%◌, ◌^◌, mul-le-mul, arith, ap}
use Rattle.wide.specs.WideLaws.{wrapped32}
use Rattle.writer.proofs.split.Goals as goal

pub overflow_mul-result : goal.overflow_mul-result
overflow_mul-result c = rw (c.from.ensures, c.from-2.ensures) (omega (arith, mul-le-mul {n₁ = c.wrapping_sub_u32-top.result} {m₁ = c.args.prob} {n₂ = 4294967295} {m₂ = 255} (omega arith) (omega arith)))

pub returns : goal.returns
returns c = rw (c.from.ensures, c.from-2.ensures) (ap (λ (x : ℕ). 1 + x * c.args.prob % 2 ^ 32 / 256) (wrapped32 _ _ _ (omega arith) (omega arith) c.wrapping_sub_u32-top.ensures.value), omega arith)
