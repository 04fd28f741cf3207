use Rattle.numbers.specs.Words.{◌*◌, ◌%◌, ◌^◌, arith, ◌≡◌}
use Rattle.wide.specs.WideLaws.{wrapped32}
use Rattle.wide.specs.Wide.{less32}
use Rattle.wide.proofs.wide.doubled.Goals as goal

pub returns : goal.returns
returns c =
    let e : c.wrapping_sub_u32.result ≡ less32 c.args.w.count 1 = wrapped32 _ _ _ (omega arith) (omega arith) c.wrapping_sub_u32.ensures.value in
    (λ i. record { at = c.args.w.at; value = c.args.value * 2 ^ 1 % 2 ^ 64; top = c.args.top; count = e i })
