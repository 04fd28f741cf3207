use Rattle.numbers.specs.Words.{ℕ, ◌≤◌, ◌<◌, arith, ◌≡◌, sym, ◌∙◌, ap, ap₂, Bool, ◌&&◌, bit_small, length}
use Rattle.wide.specs.WideLaws.{byte_bit}
use Rattle.residual.specs.Quick.{wider_of}
use Rattle.residual.specs.GroupsLaws.{parting_start, parting_group, parting_end, group_ready}
use Rattle.residual.proofs.quick.parts.Goals as goal

pub loop-g-init : goal.loop-g-init
loop-g-init c =
    let e = c.from-g.ensures ∙ byte_bit c.args.small in
    ((omega (arith, e, bit_small c.args.small), omega (arith, c.requires.flags.1.0)), (record { size = c.requires.table_len.0; top = c.requires.flags.0.0; left = c.requires.flags.0.1; long = ap length c.requires.table_len.1.0; ranged = c.requires.table_len.1.1 }, parting_start c.args.s.now c.args.table.now c.args.f (wider_of c.args.start c.args.top.now c.args.left.now) c.requires.table_len.1.0 c.requires.flags.1.0 c.args.small e c.requires.flags.1.1))

pub group_at-k-requires : goal.group_at-k-requires
group_at-k-requires c = c.loop-g-test.true

pub rows-q-requires : goal.rows-q-requires
rows-q-requires c = record { group_fits = (c.group_at-k.ensures.1, omega (arith, c.loop-g.invariant.0.0, c.loop-g.invariant.0.1)); ready = c.loop-g.invariant.1.0; norms_value = c.norms-norms.ensures }

pub settle-empty-requires : goal.settle-empty-requires
settle-empty-requires c = c.rows-q.ensures.ready.long

pub loop-g-smaller : goal.loop-g-smaller
loop-g-smaller c = let l : c.loop-g.g < 4 = c.loop-g-test.true in omega arith

pub loop-g-preserved : goal.loop-g-preserved
loop-g-preserved c =
    let g : ℕ = c.loop-g.g in
    let l : g < 4 = c.loop-g-test.true in
    ((omega arith, omega (arith, c.rows-q.ensures.few, c.loop-g.invariant.0.1, c.group_at-k.ensures.1.last)), (group_ready g c.rows-q.ensures.ready c.settle-empty.ensures.0, parting_group g c.rows-q.ensures c.settle-empty.ensures.0 l c.group_at-k.ensures.0 c.loop-g.invariant.1.1 c.settle-empty.ensures.1))

pub zeros-requires : goal.zeros-requires
zeros-requires c = let e : 264 ≤ length c.loop-g.flat = omega (arith, c.loop-g.invariant.1.0.long) in e

pub zeros-requires-2 : goal.zeros-requires-2
zeros-requires-2 c = let e : 16 ≤ length c.loop-g.flat = omega (arith, c.loop-g.invariant.1.0.long) in e

pub shape_of-flat : goal.shape_of-flat
shape_of-flat c = c.loop-g.invariant.1.0.long ∙ sym (ap length c.requires.table_len.1.0)

pub returns : goal.returns
returns c =
    let e : c.loop-g.g ≡ 4 = omega (arith, c.loop-g.invariant.0.0, c.loop-g-test.false) in
    let w = ap₂ (λ (x y : Bool). c.loop-g.m.empty && (x && y)) c.zeros.ensures c.zeros-2.ensures in
    (parting_end c.loop-g.invariant.1.1 e w, c.loop-g.invariant.1.0.long)
