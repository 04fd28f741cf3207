use Rattle.numbers.specs.Words.{◌+◌, ◌*◌, ◌^◌, ◌<◌, arith, ◌≡◌, refl, sym, ◌∙◌, ltb, length, get_or}
use Rattle.wide.specs.WideLaws.{byte_bit}
use Rattle.residual.specs.GroupsLaws.{spot_room, row_room, near_flag, passed_to, row_start, row_next, row_end}
use Rattle.residual.proofs.quick.row.Goals as goal

pub overflow_mul-at : goal.overflow_mul-at
overflow_mul-at c = let e : c.args.k.side * c.args.y < 2 ^ 64 = omega (arith, row_room c.requires.group_fits.0 c.requires.group_fits.1.0) in record { fits = e }

pub overflow_add-at : goal.overflow_add-at
overflow_add-at c = let e : c.args.k.at + c.args.k.side * c.args.y < 2 ^ 64 = omega (arith, row_room c.requires.group_fits.0 c.requires.group_fits.1.0) in record { fits = e }

pub overflow_add-beside : goal.overflow_add-beside
overflow_add-beside c = omega (arith, c.requires.group_fits.0.flag, c.requires.group_fits.1.0)

pub bounds-left-k : goal.bounds-left-k
bounds-left-k c = omega (arith, c.requires.group_fits.0.flag, c.requires.group_fits.1.0)

pub loop-x-init : goal.loop-x-init
loop-x-init c = (omega arith, row_start c.args.y c.requires.ready refl)

pub overflow_add-ctx : goal.overflow_add-ctx
overflow_add-ctx c = omega (arith, c.requires.group_fits.0.flag, c.loop-x-test.true)

pub bounds-top-k : goal.bounds-top-k
bounds-top-k c = omega (arith, c.requires.group_fits.0.flag, c.loop-x-test.true)

pub overflow_add-ctx-in-loop-x : goal.overflow_add-ctx-in-loop-x
overflow_add-ctx-in-loop-x c = omega (arith, c.loop-x.invariant.1.ready.top.each (c.args.k.flag + c.loop-x.x), near_flag c.args.left.now (c.args.k.flag + c.args.y) (rw c.requires.ready.left.long (omega (arith, c.requires.group_fits.0.flag, c.requires.group_fits.1.0))) c.loop-x.invariant.1.ready.left)

pub overflow_cast-ctx : goal.overflow_cast-ctx
overflow_cast-ctx c = omega (arith, c.loop-x.invariant.1.ready.top.each (c.args.k.flag + c.loop-x.x), near_flag c.args.left.now (c.args.k.flag + c.args.y) (rw c.requires.ready.left.long (omega (arith, c.requires.group_fits.0.flag, c.requires.group_fits.1.0))) c.loop-x.invariant.1.ready.left)

pub overflow_add-spots : goal.overflow_add-spots
overflow_add-spots c = let e : c.args.k.at + c.args.k.side * c.args.y + c.loop-x.x < 2 ^ 64 = omega (arith, spot_room c.requires.group_fits.0 c.requires.group_fits.1.0 c.loop-x-test.true) in record { fits = e }

pub read_block-b-requires : goal.read_block-b-requires
read_block-b-requires c =
    let i : c.args.k.flag + c.args.y < length c.args.left.now = rw c.requires.ready.left.long (omega (arith, c.requires.group_fits.0.flag, c.requires.group_fits.1.0)) in
    let few : get_or c.loop-x.top (c.args.k.flag + c.loop-x.x) 0 + c.loop-x.beside < 3 = omega (arith, c.loop-x.invariant.1.ready.top.each (c.args.k.flag + c.loop-x.x), near_flag c.args.left.now (c.args.k.flag + c.args.y) i c.loop-x.invariant.1.ready.left) in
    record { places_value = (c.requires.norms_value.1, (c.requires.norms_value.0, c.loop-x.invariant.1.ready.ranged)); table_len = (c.loop-x.invariant.1.ready.size, (c.requires.group_fits.0.kind, (few, c.requires.group_fits.0.first))); le_step = (c.requires.group_fits.0.low, rw c.loop-x.invariant.1.ready.long (spot_room c.requires.group_fits.0 c.requires.group_fits.1.0 c.loop-x-test.true)) }

pub overflow_add-top : goal.overflow_add-top
overflow_add-top c = omega (arith, c.requires.group_fits.0.flag, c.loop-x-test.true)

pub bounds-top-k-in-loop-x : goal.bounds-top-k-in-loop-x
bounds-top-k-in-loop-x c = omega (arith, c.requires.group_fits.0.flag, c.loop-x-test.true)

pub overflow_add-reads : goal.overflow_add-reads
overflow_add-reads c = omega (arith, c.loop-x.invariant.1.few, c.loop-x.invariant.0, c.requires.group_fits.0.flag, c.requires.group_fits.1.1, c.read_block-b.ensures.1.0)

pub loop-x-smaller : goal.loop-x-smaller
loop-x-smaller c = let l : c.loop-x.x < c.args.k.side = c.loop-x-test.true in omega arith

pub loop-x-preserved : goal.loop-x-preserved
loop-x-preserved c =
    let i : c.args.k.flag + c.args.y < length c.args.left.now = rw c.requires.ready.left.long (omega (arith, c.requires.group_fits.0.flag, c.requires.group_fits.1.0)) in
    (omega arith, row_next c.args.left.now c.loop-x.beside c.loop-x.invariant.1 (λ n. (c.shared_slice_known-2-1.given n).fits) c.requires.group_fits.1.0 c.loop-x-test.true i c.read_block-b.ensures.0 c.read_block-b.ensures.1.0 c.read_block-b.ensures.1.1 (c.from-beside.ensures ∙ byte_bit (ltb c.args.k.kind.first c.read_block-b.result.end)))

pub overflow_add-left : goal.overflow_add-left
overflow_add-left c = omega (arith, c.requires.group_fits.0.flag, c.requires.group_fits.1.0)

pub bounds-left-k-2 : goal.bounds-left-k-2
bounds-left-k-2 c = omega (arith, c.requires.group_fits.0.flag, c.requires.group_fits.1.0)

pub shape_of-flat : goal.shape_of-flat
shape_of-flat c = c.loop-x.invariant.1.ready.long ∙ sym c.requires.ready.long

pub returns : goal.returns
returns c = let e : c.loop-x.x ≡ c.args.k.side = omega (arith, c.loop-x.invariant.0, c.loop-x-test.false) in passed_to (row_end c.args.k c.args.y e) c.loop-x.invariant.1
