use Rattle.numbers.specs.Words.{◌-◌, ◌*◌, ◌%◌, ◌^◌, arith, ◌≡◌}
use Rattle.wide.specs.WideLaws.{wrapped32}
use Rattle.wide.specs.Wide.{widen_of, less32}
use Rattle.wide.proofs.wide.widen.Goals as goal

pub returns : goal.returns
unfolding widen_of
returns c =
    let et : c.wrapping_sub_u32.result ≡ less32 c.args.r.range 1 = wrapped32 _ _ _ (omega arith) (omega arith) c.wrapping_sub_u32.ensures.value in
    (λ i. record { at = c.args.r.at; value = c.from.ensures i * 2 ^ 48 % 2 ^ 64; top = et i; count = 16 - c.args.r.shifts % 8 })
