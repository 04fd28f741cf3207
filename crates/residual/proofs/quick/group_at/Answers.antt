use Rattle.residual.specs.GroupsLaws.{group_second, group_luma, group_chroma, group_fits}
use Rattle.residual.proofs.quick.group_at.Goals as goal

pub returns-then-g-eq0 : goal.returns-then-g-eq0
returns-then-g-eq0 c =
    let e = group_second c.args.f c.args.small c.args.g c.if-g-eq0.true c.second_kind-k.ensures in
    (e, group_fits c.args.f c.args.small c.args.g c.requires e)

pub returns-then-g-eq1 : goal.returns-then-g-eq1
returns-then-g-eq1 c =
    let e = group_luma c.args.f c.args.small c.args.g c.if-g-eq1.true c.kind_of-k.ensures in
    (e, group_fits c.args.f c.args.small c.args.g c.requires e)

pub returns : goal.returns
returns c =
    let e = group_chroma c.args.f c.args.small c.args.g c.if-g-eq0.false c.if-g-eq1.false c.kind_of-k-2.ensures in
    (e, group_fits c.args.f c.args.small c.args.g c.requires e)
