use Rattle.numbers.specs.Words.{◌-◌, ◌+◌, arith, ◌≡◌, refl, length, part_copied}
use Rattle.lent.proofs.records.store.Goals as goal

pub returns : goal.returns
returns c =
    let e : c.args.at + length c.args.bytes.now - c.args.at ≡ length c.args.bytes.now = omega arith in
    rw (e, c.copy_from_slice.ensures.after) (part_copied _ _ _ _ c.requires refl)
