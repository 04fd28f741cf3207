use Rattle.numbers.specs.Words.{◌-◌, arith, ◌≡◌}
use Rattle.residual.proofs.symbols.part_of.Goals as goal

pub returns-then-on : goal.returns-then-on
returns-then-on c =
    let e : c.wrapping_sub_u32.result ≡ c.args.top - c.args.x = omega (arith, c.wrapping_sub_u32.ensures.value, c.requires) in
    rw c.if-on.true (e, (omega (arith, e, c.requires), omega (arith, e, c.requires)))

pub returns : goal.returns
returns c = rw c.if-on.false (omega arith, (omega (arith, c.requires), omega (arith, c.requires)))
