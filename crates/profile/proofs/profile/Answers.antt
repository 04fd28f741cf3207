use Rattle.numbers.specs.Words.{arith, refl}
use Rattle.lent.specs.Memory.{memory_of, sizes_of}
use Rattle.choices.specs.Choices.{call_of}
use Rattle.choices.specs.ChoicesLaws.{checks_passed, check_fails, check_named}
use Rattle.profile.specs.ProfileLaws.{profile_early, profile_refused, profile_late, profile_decoded}
use Rattle.profile.proofs.profile.Goals as goal

-- the first rules fail
pub returns-then-early-ne0 : goal.returns-then-early-ne0
returns-then-early-ne0 c =
    let t = call_of c.args.bytes.now c.args.tile c.args.header.now in
    let m = memory_of c.args.y.now c.args.u.now c.args.v.now c.args.columns.now c.args.modes.now c.args.strengths.now in
    profile_early t m c.tile_rules-early.ensures c.if-early-ne0.true

-- an argument is refused
pub returns-in-Err : goal.returns-in-Err
returns-in-Err c =
    let t = call_of c.args.bytes.now c.args.tile c.args.header.now in
    let m = memory_of c.args.y.now c.args.u.now c.args.v.now c.args.columns.now c.args.modes.now c.args.strengths.now in
    rw (check_named t (sizes_of m) c.in-Err.ensures) (profile_refused t m c.tile_rules-early.ensures c.if-early-ne0.false refl (check_fails t (sizes_of m) c.in-Err.ensures))

-- the header's rules fail
pub returns-then-late-ne0 : goal.returns-then-late-ne0
returns-then-late-ne0 c =
    let t = call_of c.args.bytes.now c.args.tile c.args.header.now in
    let m = memory_of c.args.y.now c.args.u.now c.args.v.now c.args.columns.now c.args.modes.now c.args.strengths.now in
    profile_late t m c.tile_rules-early.ensures c.if-early-ne0.false refl (checks_passed t (sizes_of m) c.in_default.ensures) c.header_rules-late.ensures (λ z. omega (arith, z, c.if-late-ne0.true))

-- the picture call and what it shows
pub returns : goal.returns
returns c =
    let t = call_of c.args.bytes.now c.args.tile c.args.header.now in
    let m = memory_of c.args.y.now c.args.u.now c.args.v.now c.args.columns.now c.args.modes.now c.args.strengths.now in
    profile_decoded t m c.tile_rules-early.ensures c.if-early-ne0.false refl (checks_passed t (sizes_of m) c.in_default.ensures) c.header_rules-late.ensures c.if-late-ne0.false c.decode-d.ensures.0 c.decoded.ensures
