use Rattle.numbers.specs.Words.{ℕ, ◌*◌, ◌<◌, arith, ◌≡◌, sym, ◌∙◌, ap}
use Rattle.residual.specs.GroupsLaws.{row_room, passed_none, passed_then, passed_to}
use Rattle.residual.proofs.quick.rows.Goals as goal

pub places_after-places-requires : goal.places_after-places-requires
places_after-places-requires c = c.requires.group_fits.0.kind

pub loop-y-init : goal.loop-y-init
loop-y-init c = let e : 0 ≡ c.args.k.side * 0 = omega arith in (omega arith, passed_to e (passed_none 0 c.requires.ready))

pub row-m-requires : goal.row-m-requires
row-m-requires c = record { group_fits = (c.requires.group_fits.0, (c.loop-y-test.true, omega (arith, c.loop-y.invariant.1.few, c.requires.group_fits.1, row_room c.requires.group_fits.0 c.loop-y-test.true))); ready = c.loop-y.invariant.1.ready; norms_value = (c.requires.norms_value, c.places_after-places.ensures) }

pub loop-y-smaller : goal.loop-y-smaller
loop-y-smaller c = let l : c.loop-y.y < c.args.k.side = c.loop-y-test.true in omega arith

pub loop-y-preserved : goal.loop-y-preserved
loop-y-preserved c = let l : c.loop-y.y < c.args.k.side = c.loop-y-test.true in (omega arith, passed_then c.loop-y.invariant.1 c.row-m.ensures)

pub shape_of-flat : goal.shape_of-flat
shape_of-flat c = c.loop-y.invariant.1.ready.long ∙ sym c.requires.ready.long

pub returns : goal.returns
returns c = let e : c.loop-y.y ≡ c.args.k.side = omega (arith, c.loop-y.invariant.0, c.loop-y-test.false) in passed_to (ap (λ (n : ℕ). c.args.k.side * n) e) c.loop-y.invariant.1
